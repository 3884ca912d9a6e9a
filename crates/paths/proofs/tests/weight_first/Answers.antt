use Rattle.paths.proofs.WeightFirst.{weight_first_breaks}
use Rattle.paths.proofs.tests.weight_first.Goals as goal

pub returns-clause-breaks : goal.returns-clause-breaks
returns-clause-breaks c = weight_first_breaks
