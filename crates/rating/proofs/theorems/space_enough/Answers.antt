use Rattle.rating.proofs.Fitting.{space_enough}
use Rattle.rating.proofs.theorems.space_enough.Goals as goal

pub returns : goal.returns
returns c = space_enough
