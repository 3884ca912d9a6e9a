use Rattle.engines.specs.Settling.{dry_forth}
use Rattle.engines.proofs.theorems.dry_pipes.Goals as goal

pub returns : goal.returns
returns c = dry_forth
