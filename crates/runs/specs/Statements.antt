-- What the answers of a run say of the networks at its calls, and of their cuts and flows.
use Rattle.std.specs.Prelude.{◌≡◌, ℕ, suc, ◌≤◌, min, Bool, ◌↔◌, List, [], ◌++◌, length, take, drop, ℤ, ◌+ℤ◌, Some, Ok, vec_items, Decides, Vec}
use Rattle.std.specs.declared.alloc.Global.{Global}
use Rattle.std.specs.List.{slice_get}
use Rattle.network.specs.declared.report.Report as report
use Rattle.network.specs.declared.valve.Valve as valve
use Rattle.network.specs.Cuts.{has, capacity, Minimum, InEvery, InSome, OneMinimum, SameCuts}
use Rattle.network.specs.Flows.{value, Greatest}
use Rattle.network.specs.Governing.{Raises}
use Rattle.network.specs.Network.{Network, Sound, bare}
use Rattle.network.specs.Reaches.{Reached, Apart}
use Rattle.network.specs.Reports.{report_of}
use Rattle.network.specs.Residual.{pipe, size}
use Rattle.formats.specs.declared.refusal.Refusal.{Refusal}
use Rattle.interface.specs.Verdicts.{loading}
use Rattle.interface.specs.Works.{Manner}
use Rattle.runs.specs.declared.answer.Answer.{Answer}
use Rattle.runs.specs.declared.answer.Answer.TheVariants.{Changed, Reported, Governs, Sheet, Flow, Refused, SheetRefused, FlowRefused}
use Rattle.runs.specs.declared.call.Request.{Request}
use Rattle.runs.specs.declared.call.Request.TheVariants.{Governing, WriteSheet, ReadFlow}
use Rattle.runs.specs.declared.call.Call.{Call}
use Rattle.runs.specs.Networks.{network_at}
use Rattle.runs.specs.Runs.{Answers, Begun}

-- call i makes this request
abbrev pub Asks : List Call → ℕ → Request → Type 0
Asks cs i q = (c : Call) × (slice_get cs i ≡ Some c) × (c.request ≡ q)

-- it gets this answer
abbrev pub Tells : List Answer → ℕ → Answer → Type 0
Tells answers i a = slice_get answers i ≡ Some a

-- an answer that refuses, for this reason
pub data Refuses : Answer → Refusal → Type 0 where
  refused : {e : Refusal} → Refuses (Refused e) e
  sheet_refused : {e : Refusal} {v : Vec ℕ Global} → Refuses (SheetRefused e v) e
  flow_refused : {e : Refusal} {v : Vec ℕ Global} → Refuses (FlowRefused e v) e

-- call i gets this answer: it is carried out at the network there and a flow kept so far, which is greatest, and leads to the network at the next call and the flow kept then
pub record AnsweredAt {Λ : Type 0} (most : ℕ) (manner : Manner) (good : Λ → Λ → Type 0) (start : Λ) (extended : Λ → ℕ → Λ) (room : ℕ) (cs : List Call) (i : ℕ) (a : Answer) : Type 0 where
  pub call : Call
  pub called : slice_get cs i ≡ Some call
  pub before : List ℕ
  pub after : List ℕ
  pub greatest : Greatest (network_at most room cs i) before
  pub answers : Answers most manner good start extended (min call.places room) (network_at most room cs i) before call.request a (network_at most room cs (suc i)) after

-- a report of w, by its minimum cuts: what they let through, the junctions in every one, those in at least one; both sets are minimum cuts
pub record ReportsCuts (w : Network) (r : report.Report) : Type 0 where
  pub is : r ≡ report_of w
  pub least : (s : ℕ) → Minimum w s → capacity w s ≡ r.value
  pub every : (k : ℕ) → Decides (has r.near k) (InEvery w k)
  pub some : (k : ℕ) → Decides (has r.far k) (InSome w k)
  pub smallest : Minimum w r.near
  pub largest : Minimum w r.far
  pub one : (r.near ≡ r.far) ↔ OneMinimum w

-- n numbers over the front of a row are a greatest flow of w, a number for each pipe. In its residual graph the pump reaches the near side,
-- and all but the far side reaches the outlet. The numbers beyond are as before.
pub record ReadsFlow (w : Network) (before : List ℕ) (n : ℕ) (after : List ℕ) : Type 0 where
  pub each : n ≡ size w
  pub greatest : Greatest w (take n after)
  pub near : Reached w (take n after) w.pump (report_of w).near
  pub far : Apart w (take n after) w.outlet (report_of w).far
  pub as_long : length after ≡ length before
  pub beyond : drop n after ≡ drop n before

-- n bytes over the front of a space give back w to every engine that takes as many junctions, whatever follows them; no other bytes do.
-- The bytes beyond are as before.
pub record WritesSheet (w : Network) (before : List ℕ) (n : ℕ) (after : List ℕ) : Type 0 where
  pub loads : (most places : ℕ) (more : List ℕ) → w.junctions ≤ most → most ≤ 64 → most ≤ places → loading most places (take n after ++ more) ≡ Ok (w, n)
  pub only : (most places : ℕ) (text : List ℕ) (m : ℕ) → most ≤ 64 → loading most places text ≡ Ok (w, m) → (m ≡ n) × (take m text ≡ take n after)
  pub as_long : length after ≡ length before
  pub beyond : drop n after ≡ drop n before

-- two reports, of one run or of two, are equal exactly where the minimum cuts of the two networks agree in what they let through,
-- in the junctions that all of them have, and in those that at least one has
abbrev pub EqualReports : (most room : ℕ) → List Call → List Answer → (most' room' : ℕ) → List Call → List Answer → Type 0
EqualReports most room cs answers most' room' ds others =
    (i j : ℕ) (r s : report.Report) → Tells answers i (Reported r) → Tells others j (Reported s) → (r ≡ s) ↔ SameCuts (network_at most room cs i) (network_at most' room' ds j)

-- an engine that is new at the first call gave these answers, to as many of the calls
pub record Faithful {Λ : Type 0} (most : ℕ) (manner : Manner) (good : Λ → Λ → Type 0) (start : Λ) (extended : Λ → ℕ → Λ) (room : ℕ) (cs : List Call) (answers : List Answer) : Type 0 where
  -- call by call
  pub begun : Begun most manner good start extended room bare [] cs answers
  pub each : (i : ℕ) (a : Answer) → Tells answers i a → AnsweredAt most manner good start extended room cs i a
  pub few : length answers ≤ length cs
  -- the network at each call
  pub sound : (i : ℕ) → Sound (network_at most room cs i) × ((network_at most room cs i).junctions ≤ most)
  -- a refused call leaves it
  pub refusals : (i : ℕ) (a : Answer) (e : Refusal) → Tells answers i a → Refuses a e → network_at most room cs (suc i) ≡ network_at most room cs i
  -- a change is told by how much more, or less, the greatest flows bring after it
  pub changes : (i n : ℕ) (d : ℤ) → Tells answers i (Changed d n) → (f g : List ℕ) → Greatest (network_at most room cs i) f → Greatest (network_at most room cs (suc i)) g
      → value (network_at most room cs (suc i)) g ≡ value (network_at most room cs i) f +ℤ d
  pub reports : (i : ℕ) (r : report.Report) → Tells answers i (Reported r) → ReportsCuts (network_at most room cs i) r
  pub equal : EqualReports most room cs answers most room cs answers
  -- a pipe is told to govern exactly where it is open and one litre more on its limit raises the greatest value
  pub governing : (i k : ℕ) (b : Bool) → Asks cs i (Governing k) → Tells answers i (Governs b)
      → Decides b (((pipe (network_at most room cs i) k).valve ≡ valve.TheVariants.Open) × Raises (network_at most room cs i) k)
  pub flows : (i n : ℕ) (row v : Vec ℕ Global) → Asks cs i (ReadFlow row) → Tells answers i (Flow n v) → ReadsFlow (network_at most room cs i) (vec_items row) n (vec_items v)
  pub sheets : (i n : ℕ) (space v : Vec ℕ Global) → Asks cs i (WriteSheet space) → Tells answers i (Sheet n v) → WritesSheet (network_at most room cs i) (vec_items space) n (vec_items v)
  -- a refused reading or writing gives back what it was given
  pub rows : (i : ℕ) (e : Refusal) (row v : Vec ℕ Global) → Asks cs i (ReadFlow row) → Tells answers i (FlowRefused e v) → vec_items v ≡ vec_items row
  pub spaces : (i : ℕ) (e : Refusal) (space v : Vec ℕ Global) → Asks cs i (WriteSheet space) → Tells answers i (SheetRefused e v) → vec_items v ≡ vec_items space
