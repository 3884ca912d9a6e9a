use Rattle.engines.specs.Settling.{balance}
use Rattle.engines.proofs.theorems.flows_balance.Goals as goal

pub returns : goal.returns
returns c = balance
