use Rattle.engines.specs.Settling.{flow_balanced}
use Rattle.engines.proofs.theorems.balanced_flows.Goals as goal

pub returns : goal.returns
returns c = flow_balanced
