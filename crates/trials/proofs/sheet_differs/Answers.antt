use Rattle.std.proofs.Common.{refl}
use Rattle.trials.proofs.Again.{answer_again, same_again, fits_again}
use Rattle.trials.proofs.sheet_differs.Goals as goal

pub returns-in-Ok : goal.returns-in-Ok
returns-in-Ok c =
    let e = c.in-Ok.ensures in
    answer_again _ _ c.in_ok-table.ensures.verdict.0 (same_again _ _ _ _ _ c.ne.result e.1 e.2 c.in_ok-table.ensures.sheet.taken c.ne.ensures)

pub returns-in-Err : goal.returns-in-Err
returns-in-Err c = answer_again _ _ c.in_ok-table.ensures.verdict.0 (fits_again c.in_ok-table.table _ refl c.in-Err.ensures.1)
