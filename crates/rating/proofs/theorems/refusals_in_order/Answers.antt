use Rattle.rating.proofs.FirstMissed.{refused_first}
use Rattle.rating.proofs.theorems.refusals_in_order.Goals as goal

pub returns : goal.returns
returns c = refused_first
