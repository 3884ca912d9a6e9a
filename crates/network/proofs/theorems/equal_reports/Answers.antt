use Rattle.network.proofs.Raising.{same_report_lem}
use Rattle.network.proofs.theorems.equal_reports.Goals as goal

pub returns : goal.returns
returns c = same_report_lem
