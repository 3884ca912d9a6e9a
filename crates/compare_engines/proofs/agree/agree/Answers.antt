use Rattle.std.proofs.Common.{◌≡◌, Decides, w64, SFits, rules}
use Rattle.std.proofs.lemmas.Bool.Decides.{Decides-eqb}
use Rattle.std.proofs.lemmas.Slice.Eq.{slice_eq-Decides}
use Rattle.compare_engines.proofs.Agreeing.{at, at_rows, loaded, changed, reported, governs, sheets, flows, refused, sheets_refused, sheets_differ, flows_refused, flows_differ}
use Rattle.compare_engines.proofs.agree.agree.Goals as goal

pub returns-in-Loaded-Loaded : goal.returns-in-Loaded-Loaded
returns-in-Loaded-Loaded c = at _ _ _ _ _ c.in-Loaded-Loaded.is-0 c.in-Loaded-Loaded.is-1 (loaded _ _)

pub returns-in-Changed-Changed : goal.returns-in-Changed-Changed
returns-in-Changed-Changed c =
    let one : SFits w64 c.in-Changed-Changed.d = search rules in
    let other : SFits w64 c.in-Changed-Changed.e = search rules in
    at _ _ _ _ _ c.in-Changed-Changed.is-0 c.in-Changed-Changed.is-1 (changed _ _ _ _ one other)

pub returns-in-Reported-Reported : goal.returns-in-Reported-Reported
returns-in-Reported-Reported c =
    let same : Decides c.eq.result (c.in-Reported-Reported.r ≡ c.in-Reported-Reported.s) = search rules in
    at _ _ _ _ _ c.in-Reported-Reported.is-0 c.in-Reported-Reported.is-1 (reported _ _ _ same)

pub returns-in-Governs-Governs : goal.returns-in-Governs-Governs
returns-in-Governs-Governs c = at _ _ _ _ _ c.in-Governs-Governs.is-0 c.in-Governs-Governs.is-1 (governs _ _)

pub returns-then-m-n : goal.returns-then-m-n
returns-then-m-n c =
    at _ _ _ _ _ c.in-Sheet-Sheet.is-0 c.in-Sheet-Sheet.is-1 (sheets _ _ _ _ _ c.if-m-n.true (slice_eq-Decides Decides-eqb _ _ _ c.eq-then-m-n.ensures))

pub returns-then-m-n-2 : goal.returns-then-m-n-2
returns-then-m-n-2 c =
    let same = at_rows _ _ _ _ _ _ c.deref.ensures.value c.deref-then-m-n-2.ensures.value c.equal_behind.ensures in
    at _ _ _ _ _ c.in-Flow-Flow.is-0 c.in-Flow-Flow.is-1 (flows _ _ _ _ _ c.if-m-n-2.true same)

pub returns-in-Refused-Refused : goal.returns-in-Refused-Refused
returns-in-Refused-Refused c =
    let same : Decides c.eq-in-Refused-Refused.result (c.in-Refused-Refused.e ≡ c.in-Refused-Refused.f) = search rules in
    at _ _ _ _ _ c.in-Refused-Refused.is-0 c.in-Refused-Refused.is-1 (refused _ _ _ same)

pub returns-then-eq : goal.returns-then-eq
returns-then-eq c =
    let same : Decides c.eq-in-SheetRefused-SheetRefused.result (c.in-SheetRefused-SheetRefused.e ≡ c.in-SheetRefused-SheetRefused.f) = search rules in
    at _ _ _ _ _ c.in-SheetRefused-SheetRefused.is-0 c.in-SheetRefused-SheetRefused.is-1 (sheets_refused _ _ _ _ _ (same.0 c.if-eq.true) (slice_eq-Decides Decides-eqb _ _ _ c.eq-then-eq.ensures))

pub returns-else-eq : goal.returns-else-eq
returns-else-eq c =
    let same : Decides c.eq-in-SheetRefused-SheetRefused.result (c.in-SheetRefused-SheetRefused.e ≡ c.in-SheetRefused-SheetRefused.f) = search rules in
    at _ _ _ _ _ c.in-SheetRefused-SheetRefused.is-0 c.in-SheetRefused-SheetRefused.is-1 (sheets_differ _ _ _ _ _ c.if-eq.false same)

pub returns-then-eq-2 : goal.returns-then-eq-2
returns-then-eq-2 c =
    let same : Decides c.eq-in-FlowRefused-FlowRefused.result (c.in-FlowRefused-FlowRefused.e ≡ c.in-FlowRefused-FlowRefused.f) = search rules in
    at _ _ _ _ _ c.in-FlowRefused-FlowRefused.is-0 c.in-FlowRefused-FlowRefused.is-1 (flows_refused _ _ _ _ _ (same.0 c.if-eq-2.true) (slice_eq-Decides Decides-eqb _ _ _ c.eq-then-eq-2.ensures))

pub returns-else-eq-2 : goal.returns-else-eq-2
returns-else-eq-2 c =
    let same : Decides c.eq-in-FlowRefused-FlowRefused.result (c.in-FlowRefused-FlowRefused.e ≡ c.in-FlowRefused-FlowRefused.f) = search rules in
    at _ _ _ _ _ c.in-FlowRefused-FlowRefused.is-0 c.in-FlowRefused-FlowRefused.is-1 (flows_differ _ _ _ _ _ c.if-eq-2.false same)
