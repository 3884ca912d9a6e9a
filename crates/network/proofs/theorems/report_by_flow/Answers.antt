use Rattle.network.proofs.Gathered.{by_flow}
use Rattle.network.proofs.theorems.report_by_flow.Goals as goal

pub returns : goal.returns
returns c = by_flow
