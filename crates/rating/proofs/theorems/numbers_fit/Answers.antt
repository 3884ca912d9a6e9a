use Rattle.rating.proofs.Fitting.{numbers_fit}
use Rattle.rating.proofs.theorems.numbers_fit.Goals as goal

pub returns : goal.returns
returns c = numbers_fit
