use Rattle.rating.proofs.Worked.{examples}
use Rattle.rating.proofs.theorems.example_page.Goals as goal

pub returns : goal.returns
returns c = examples
