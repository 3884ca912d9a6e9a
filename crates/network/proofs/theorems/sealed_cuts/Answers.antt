use Rattle.network.proofs.Gathered.{sealed_cuts_lem}
use Rattle.network.proofs.theorems.sealed_cuts.Goals as goal

pub returns : goal.returns
returns c = sealed_cuts_lem
