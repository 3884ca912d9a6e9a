use Rattle.network.proofs.Raising.{one_minimum}
use Rattle.network.proofs.theorems.one_cut.Goals as goal

pub returns : goal.returns
returns c = one_minimum
