use Rattle.network.proofs.Gathered.{weak}
use Rattle.network.proofs.theorems.weak_duality.Goals as goal

pub returns : goal.returns
returns c = weak
