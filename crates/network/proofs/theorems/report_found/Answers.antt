use Rattle.network.proofs.Greatest.{report_is}
use Rattle.network.proofs.theorems.report_found.Goals as goal

pub returns : goal.returns
returns c = report_is
