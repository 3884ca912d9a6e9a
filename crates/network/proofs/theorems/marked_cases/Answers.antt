use Rattle.network.proofs.Gathered.{marked_cases_lem}
use Rattle.network.proofs.theorems.marked_cases.Goals as goal

pub returns : goal.returns
returns c = marked_cases_lem
