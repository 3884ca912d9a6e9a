use Rattle.std.proofs.Common.{sym, ◌∙◌}
use Rattle.network.proofs.TableFacts.{governing_record, governing_none, raises_by}
use Rattle.network.proofs.governing.governs.Goals as goal

pub returns-in-None : goal.returns-in-None
returns-in-None c =
    let e = sym (governing_none c.args.table.now c.args.report.now c.args.k c.in-None.ensures) in
    record { test = e; raises = raises_by c.args.table.now c.args.report.now c.args.k _ e }

pub returns-then-holds : goal.returns-then-holds
returns-then-holds c =
    let row = governing_record c.args.table.now c.args.report.now c.args.k _ _ c.in-Some.ensures.1 c.in-Open.is in
    let e = sym (rw (← c.if-holds.ensures, ← c.holds-then-holds.ensures) at row) in
    record { test = e; raises = raises_by c.args.table.now c.args.report.now c.args.k _ e }

pub returns-else-holds : goal.returns-else-holds
returns-else-holds c =
    let row = governing_record c.args.table.now c.args.report.now c.args.k _ _ c.in-Some.ensures.1 c.in-Open.is in
    let e = c.if-holds.false ∙ sym (rw (← c.if-holds.ensures) at row) in
    record { test = e; raises = raises_by c.args.table.now c.args.report.now c.args.k _ e }

pub returns-in-Closed : goal.returns-in-Closed
returns-in-Closed c =
    let e = sym (governing_record c.args.table.now c.args.report.now c.args.k _ _ c.in-Some.ensures.1 c.in-Closed.is) in
    record { test = e; raises = raises_by c.args.table.now c.args.report.now c.args.k _ e }
