-- Two engines that are asked the same.
use Rattle.std.specs.Prelude.{◌≡◌, ℕ, Bool, List, [], ◌∷◌, length, drop, ℤ, vec_items, Vec}
use Rattle.std.specs.Borrow.{Bor}
use Rattle.std.specs.declared.alloc.Global.{Global}
use Rattle.network.specs.declared.report.Report as report
use Rattle.formats.specs.declared.refusal.Refusal.{Refusal}
use Rattle.runs.specs.declared.answer.Answer.{Answer}
use Rattle.runs.specs.declared.answer.Answer.TheVariants.{Loaded, Changed, Reported, Governs, Sheet, Flow, Refused, SheetRefused, FlowRefused}
use Rattle.runs.specs.declared.call.Request.{Request}
use Rattle.runs.specs.declared.call.Request.TheVariants.{Load, Open, Close, Limit, Pattern, Report, Governing, WriteSheet, ReadFlow}
use Rattle.runs.specs.declared.call.Call.{Call}
use Rattle.runs.specs.Statements.{Tells}

-- requests that say the same, wherever their bytes and numbers lie
pub data SameRequest : Request → Request → Type 0 where
  both_load : {s t : Bor (List ℕ)} → s.now ≡ t.now → SameRequest (Load s) (Load t)
  both_open : {k : ℕ} → SameRequest (Open k) (Open k)
  both_close : {k : ℕ} → SameRequest (Close k) (Close k)
  both_limit : {k l : ℕ} → SameRequest (Limit k l) (Limit k l)
  both_pattern : {s t : Bor (List ℕ)} → s.now ≡ t.now → SameRequest (Pattern s) (Pattern t)
  both_report : SameRequest Report Report
  both_governing : {k : ℕ} → SameRequest (Governing k) (Governing k)
  both_write : {s t : Vec ℕ Global} → vec_items s ≡ vec_items t → SameRequest (WriteSheet s) (WriteSheet t)
  both_read : {s t : Vec ℕ Global} → vec_items s ≡ vec_items t → SameRequest (ReadFlow s) (ReadFlow t)

pub record SameCall (c d : Call) : Type 0 where
  pub request : SameRequest c.request d.request
  pub places : c.places ≡ d.places

pub data SameCalls : List Call → List Call → Type 0 where
  no_more : SameCalls [] []
  and_then : {c d : Call} {cs ds : List Call} → SameCall c d → SameCalls cs ds → SameCalls (c ∷ cs) (d ∷ ds)

-- Answers that agree. Two engines may keep different greatest flows, and come to them by more or fewer augmentations; in all else they are equal,
-- also in the numbers behind a flow.
pub data Agree : Answer → Answer → Type 0 where
  both_loaded : {n : ℕ} → Agree (Loaded n) (Loaded n)
  both_changed : {d : ℤ} {m n : ℕ} → Agree (Changed d m) (Changed d n)
  both_reported : {r : report.Report} → Agree (Reported r) (Reported r)
  both_governs : {b : Bool} → Agree (Governs b) (Governs b)
  both_sheet : {n : ℕ} {u v : Vec ℕ Global} → vec_items u ≡ vec_items v → Agree (Sheet n u) (Sheet n v)
  both_flow : {n : ℕ} {u v : Vec ℕ Global} → length (vec_items u) ≡ length (vec_items v) → drop n (vec_items u) ≡ drop n (vec_items v) → Agree (Flow n u) (Flow n v)
  both_refused : {e : Refusal} → Agree (Refused e) (Refused e)
  both_sheet_refused : {e : Refusal} {u v : Vec ℕ Global} → vec_items u ≡ vec_items v → Agree (SheetRefused e u) (SheetRefused e v)
  both_flow_refused : {e : Refusal} {u v : Vec ℕ Global} → vec_items u ≡ vec_items v → Agree (FlowRefused e u) (FlowRefused e v)

-- of two runs, each call that both answered
abbrev pub AnswersAgree : List Answer → List Answer → Type 0
AnswersAgree answers others = (i : ℕ) (a b : Answer) → Tells answers i a → Tells others i b → Agree a b
