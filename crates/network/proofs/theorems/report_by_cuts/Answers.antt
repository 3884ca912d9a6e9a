use Rattle.network.proofs.Gathered.{by_cuts}
use Rattle.network.proofs.theorems.report_by_cuts.Goals as goal

pub returns : goal.returns
returns c = by_cuts
