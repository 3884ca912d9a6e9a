use Rattle.network.proofs.Gathered.{greatest_flows_lem}
use Rattle.network.proofs.theorems.greatest_flows.Goals as goal

pub returns : goal.returns
returns c = greatest_flows_lem
