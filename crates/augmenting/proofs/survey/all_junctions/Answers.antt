use Rattle.augmenting.proofs.Surveys.{ones_shifted}
use Rattle.augmenting.proofs.survey.all_junctions.Goals as goal

pub returns : goal.returns
returns c = ones_shifted c.args.table.now.junctions c.args.table.now.most
