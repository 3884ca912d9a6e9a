use Rattle.engines.specs.Settling.{full_forth}
use Rattle.engines.proofs.theorems.full_pipes.Goals as goal

pub returns : goal.returns
returns c = full_forth
