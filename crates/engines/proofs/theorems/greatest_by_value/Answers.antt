use Rattle.engines.specs.Settling.{full_greatest}
use Rattle.engines.proofs.theorems.greatest_by_value.Goals as goal

pub returns : goal.returns
returns c = full_greatest
