-- What a run of calls on one engine answers.
-- `most` is the most junctions that the engine takes, `manner` how it works; `good`, `start` and `extended` are those of its path metric.
-- An engine means a network w and keeps a flow f.
use Rattle.std.specs.Prelude.{◌≡◌, ℕ, min, Bool, List, [], ◌∷◌, length, take, ℤ, Ok, Err, vec_items, Vec}
use Rattle.std.specs.Borrow.{Bor}
use Rattle.std.specs.declared.alloc.Global.{Global}
use Rattle.network.specs.declared.report.Report as report
use Rattle.network.specs.Flows.{Greatest}
use Rattle.network.specs.Network.{Network}
use Rattle.formats.specs.declared.refusal.Refusal.{Refusal}
use Rattle.formats.specs.Spaces.{put_at}
use Rattle.formats.specs.Written.{sheet_of}
use Rattle.interface.specs.Verdicts.{loading, opening, closing, limiting, patterning, reporting, asking, writing, reading, change}
use Rattle.interface.specs.Works.{loaded, opened, closed, limited, lettered, Manner, Works}
use Rattle.runs.specs.declared.answer.Answer.{Answer}
use Rattle.runs.specs.declared.answer.Answer.TheVariants.{Loaded, Changed, Reported, Governs, Sheet, Flow, Refused, SheetRefused, FlowRefused}
use Rattle.runs.specs.declared.call.Request.{Request}
use Rattle.runs.specs.declared.call.Request.TheVariants.{Load, Open, Close, Limit, Pattern, Report, Governing, WriteSheet, ReadFlow}
use Rattle.runs.specs.declared.call.Call.{Call}

-- A request at w and f, given so many places, gets this answer and leaves the network and the flow that stand last. A refused one leaves both.
-- A space or a row that comes with a request goes back with the answer: written over, or as it was.
pub data Answers {Λ : Type 0} (most : ℕ) (manner : Manner) (good : Λ → Λ → Type 0) (start : Λ) (extended : Λ → ℕ → Λ) (places : ℕ) : Network → List ℕ → Request → Answer → Network → List ℕ → Type 0 where
  loads : {w u : Network} {f g : List ℕ} {text : Bor (List ℕ)} {n : ℕ} (m : ℕ)
      → loading most places text.now ≡ Ok (u, n) → Works manner good start extended w f (loaded u) m g → Greatest u g
      → Answers most manner good start extended places w f (Load text) (Loaded n) u g
  not_loads : {w : Network} {f : List ℕ} {text : Bor (List ℕ)} {e : Refusal}
      → loading most places text.now ≡ Err e
      → Answers most manner good start extended places w f (Load text) (Refused e) w f
  opens : {w u : Network} {f g : List ℕ} {k n : ℕ} {d : ℤ}
      → opening most places w k ≡ Ok u → d ≡ change w u → Works manner good start extended w f (opened k) n g → Greatest u g
      → Answers most manner good start extended places w f (Open k) (Changed d n) u g
  not_opens : {w : Network} {f : List ℕ} {k : ℕ} {e : Refusal}
      → opening most places w k ≡ Err e
      → Answers most manner good start extended places w f (Open k) (Refused e) w f
  closes : {w u : Network} {f g : List ℕ} {k n : ℕ} {d : ℤ}
      → closing most places w k ≡ Ok u → d ≡ change w u → Works manner good start extended w f (closed k) n g → Greatest u g
      → Answers most manner good start extended places w f (Close k) (Changed d n) u g
  not_closes : {w : Network} {f : List ℕ} {k : ℕ} {e : Refusal}
      → closing most places w k ≡ Err e
      → Answers most manner good start extended places w f (Close k) (Refused e) w f
  limits : {w u : Network} {f g : List ℕ} {k l n : ℕ} {d : ℤ}
      → limiting most places w k l ≡ Ok u → d ≡ change w u → Works manner good start extended w f (limited k l) n g → Greatest u g
      → Answers most manner good start extended places w f (Limit k l) (Changed d n) u g
  not_limits : {w : Network} {f : List ℕ} {k l : ℕ} {e : Refusal}
      → limiting most places w k l ≡ Err e
      → Answers most manner good start extended places w f (Limit k l) (Refused e) w f
  patterns : {w u : Network} {f g : List ℕ} {letters : Bor (List ℕ)} {n : ℕ} {d : ℤ}
      → patterning most places w letters.now ≡ Ok u → d ≡ change w u → Works manner good start extended w f (lettered letters.now) n g → Greatest u g
      → Answers most manner good start extended places w f (Pattern letters) (Changed d n) u g
  not_patterns : {w : Network} {f : List ℕ} {letters : Bor (List ℕ)} {e : Refusal}
      → patterning most places w letters.now ≡ Err e
      → Answers most manner good start extended places w f (Pattern letters) (Refused e) w f
  reports : {w : Network} {f : List ℕ} {r : report.Report}
      → reporting most places w ≡ Ok r
      → Answers most manner good start extended places w f Report (Reported r) w f
  not_reports : {w : Network} {f : List ℕ} {e : Refusal}
      → reporting most places w ≡ Err e
      → Answers most manner good start extended places w f Report (Refused e) w f
  governs : {w : Network} {f : List ℕ} {k : ℕ} {b : Bool}
      → asking most places w k ≡ Ok b
      → Answers most manner good start extended places w f (Governing k) (Governs b) w f
  not_governs : {w : Network} {f : List ℕ} {k : ℕ} {e : Refusal}
      → asking most places w k ≡ Err e
      → Answers most manner good start extended places w f (Governing k) (Refused e) w f
  writes : {w : Network} {f : List ℕ} {space v : Vec ℕ Global} {n : ℕ}
      → writing (length (vec_items space)) w ≡ Ok n → vec_items v ≡ put_at 0 (sheet_of w) (vec_items space)
      → Answers most manner good start extended places w f (WriteSheet space) (Sheet n v) w f
  not_writes : {w : Network} {f : List ℕ} {space v : Vec ℕ Global} {e : Refusal}
      → writing (length (vec_items space)) w ≡ Err e → vec_items v ≡ vec_items space
      → Answers most manner good start extended places w f (WriteSheet space) (SheetRefused e v) w f
  reads : {w : Network} {f : List ℕ} {row v : Vec ℕ Global} {n : ℕ}
      → reading (length (vec_items row)) w ≡ Ok n → vec_items v ≡ put_at 0 f (vec_items row)
      → Answers most manner good start extended places w f (ReadFlow row) (Flow n v) w f
  not_reads : {w : Network} {f : List ℕ} {row v : Vec ℕ Global} {e : Refusal}
      → reading (length (vec_items row)) w ≡ Err e → vec_items v ≡ vec_items row
      → Answers most manner good start extended places w f (ReadFlow row) (FlowRefused e v) w f

-- Calls with their answers, one after the other, from a network and a flow to those after the last. There is a workspace of so many places:
-- a call is given as many as it asks for, or all.
pub data Run {Λ : Type 0} (most : ℕ) (manner : Manner) (good : Λ → Λ → Type 0) (start : Λ) (extended : Λ → ℕ → Λ) (room : ℕ) : Network → List ℕ → List Call → List Answer → Network → List ℕ → Type 0 where
  ends : {w : Network} {f : List ℕ} → Run most manner good start extended room w f [] [] w f
  goes : {w u v : Network} {f g h : List ℕ} {c : Call} {cs : List Call} {a : Answer} {rest : List Answer}
      → Answers most manner good start extended (min c.places room) w f c.request a u g → Run most manner good start extended room u g cs rest v h
      → Run most manner good start extended room w f (c ∷ cs) (a ∷ rest) v h

-- as many of the calls as there are answers were answered so
pub record Begun {Λ : Type 0} (most : ℕ) (manner : Manner) (good : Λ → Λ → Type 0) (start : Λ) (extended : Λ → ℕ → Λ) (room : ℕ) (w : Network) (f : List ℕ) (cs : List Call) (answers : List Answer) : Type 0 where
  pub network : Network
  pub flow : List ℕ
  pub run : Run most manner good start extended room w f (take (length answers) cs) answers network flow
