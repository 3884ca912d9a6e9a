-- What four engines answered to the same calls.
use Rattle.std.specs.Prelude.{◌≡◌, ℕ, suc, ◌<◌, min, List, length, Option, Some, None, vec_items, vec_len}
use Rattle.paths.specs.Fews.{few, Fewer, lengthened}
use Rattle.paths.specs.Widths.{unbounded, Wider, narrowed}
use Rattle.interface.specs.Works.{Manner, warm, cold}
use Rattle.runs.specs.declared.answer.Answer.{Answer}
use Rattle.runs.specs.declared.answer.Answer.TheVariants.{Loaded, Changed, Reported, Governs, Sheet, Flow, Refused, SheetRefused, FlowRefused}
use Rattle.runs.specs.declared.call.Call.{Call}
use Rattle.runs.specs.Agreements.{Agree, SameCalls}
use Rattle.runs.specs.Statements.{Tells, Faithful}
use Rattle.compare_engines.specs.declared.four.Four.{Four}
use Rattle.compare_engines.specs.declared.four.Told.{Told}

-- the first's answer to a call agrees with those of the others
abbrev pub AllAgree : Answer → Answer → Answer → Answer → Type 0
AllAgree a b c d = Agree a b × Agree a c × Agree a d

-- so it is with call i, if all four answered it
abbrev pub AgreeAt : List Answer → List Answer → List Answer → List Answer → ℕ → Type 0
AgreeAt xs bs cs ds i = (a b c d : Answer) → Tells xs i a → Tells bs i b → Tells cs i c → Tells ds i d → AllAgree a b c d

-- and with every call
abbrev pub FourAgree : List Answer → List Answer → List Answer → List Answer → Type 0
FourAgree xs bs cs ds = (i : ℕ) → AgreeAt xs bs cs ds i

-- the number of augmentations in an answer that has one
abbrev pub count_in : Answer → Option ℕ
count_in (Loaded n) = None
count_in (Changed d n) = Some n
count_in (Reported r) = None
count_in (Governs b) = None
count_in (Sheet n v) = None
count_in (Flow n v) = None
count_in (Refused e) = None
count_in (SheetRefused e v) = None
count_in (FlowRefused e v) = None

-- the four answers to call i
abbrev pub TellsEach : Four → ℕ → Told → Type 0
TellsEach f i t =
    Tells (vec_items f.warm_fewest) i t.warm_fewest.now × Tells (vec_items f.warm_widest) i t.warm_widest.now
    × Tells (vec_items f.cold_fewest) i t.cold_fewest.now × Tells (vec_items f.cold_widest) i t.cold_widest.now

-- how many calls all four answered
abbrev pub answered : Four → ℕ
answered f = min (min (vec_len f.warm_fewest) (vec_len f.warm_widest)) (min (vec_len f.cold_fewest) (vec_len f.cold_widest))

-- the number, counted from 1, of the first call in which they differ
pub record FirstDifference (f : Four) (n : ℕ) : Type 0 where
  pub call : ℕ
  pub number : n ≡ suc call
  pub differs : ¬ AgreeAt (vec_items f.warm_fewest) (vec_items f.warm_widest) (vec_items f.cold_fewest) (vec_items f.cold_widest) call
  pub agree : (i : ℕ) → i < call → AgreeAt (vec_items f.warm_fewest) (vec_items f.warm_widest) (vec_items f.cold_fewest) (vec_items f.cold_widest) i

-- they agree in each of these
abbrev pub EachAgrees : Four → Type 0
EachAgrees f = FourAgree (vec_items f.warm_fewest) (vec_items f.warm_widest) (vec_items f.cold_fewest) (vec_items f.cold_widest)

-- an engine for 64 junctions, with as many workspace places, answered all of these calls
pub record AnswersAll {Λ : Type 0} (manner : Manner) (good : Λ → Λ → Type 0) (start : Λ) (extended : Λ → ℕ → Λ) (cs : List Call) (answers : List Answer) : Type 0 where
  pub given : List Call
  pub same : SameCalls cs given
  pub faithful : Faithful 64 manner good start extended 64 given answers
  pub each : length answers ≡ length cs

-- so did all four
pub record FourAnswer (cs : List Call) (f : Four) : Type 0 where
  pub warm_fewest : AnswersAll warm Fewer (few 0 unbounded) lengthened cs (vec_items f.warm_fewest)
  pub warm_widest : AnswersAll warm Wider unbounded narrowed cs (vec_items f.warm_widest)
  pub cold_fewest : AnswersAll cold Fewer (few 0 unbounded) lengthened cs (vec_items f.cold_fewest)
  pub cold_widest : AnswersAll cold Wider unbounded narrowed cs (vec_items f.cold_widest)
