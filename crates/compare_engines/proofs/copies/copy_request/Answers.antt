use Rattle.std.proofs.Common.{refl, rules}
use Rattle.runs.specs.Agreements.{both_load, both_open, both_close, both_limit, both_pattern, both_report, both_governing, both_write, both_read}
use Rattle.compare_engines.proofs.Copying.{same_at}
use Rattle.compare_engines.proofs.copies.copy_request.Goals as goal
use Rattle.compare_engines.proofs.copies.copy_request.Goals.{in-Load, in-Open, in-Close, in-Limit, in-Pattern, in-Report, in-Governing, in-WriteSheet+in_ok-to_vec-in-WriteSheet, in-ReadFlow+in_ok-to_vec-in-ReadFlow}

pub returns : goal.returns
returns c = elim c.match-request.branch [
  | in-Load w ↦ same_at _ _ w.in-Load.is w.copy-is (both_load refl)
  | in-Open w ↦ same_at _ _ w.in-Open.is w.copy-is both_open
  | in-Close w ↦ same_at _ _ w.in-Close.is w.copy-is both_close
  | in-Limit w ↦ same_at _ _ w.in-Limit.is w.copy-is both_limit
  | in-Pattern w ↦ same_at _ _ w.in-Pattern.is w.copy-is (both_pattern refl)
  | in-Report w ↦ same_at _ _ w.in-Report.is w.copy-is both_report
  | in-Governing w ↦ same_at _ _ w.in-Governing.is w.copy-is both_governing
  | in-WriteSheet+in_ok-to_vec-in-WriteSheet w ↦ same_at _ _ w.in-WriteSheet.is w.copy-is (both_write (search rules))
  | in-ReadFlow+in_ok-to_vec-in-ReadFlow w ↦ same_at _ _ w.in-ReadFlow.is w.copy-is (both_read (search rules))
]
