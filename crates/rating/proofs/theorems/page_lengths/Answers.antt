use Rattle.rating.proofs.Lengths.{page_of_length}
use Rattle.rating.proofs.theorems.page_lengths.Goals as goal

pub returns : goal.returns
returns c = page_of_length
