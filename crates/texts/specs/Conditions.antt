-- The conditions on a text in their order, each with the refusal that is given where it is the first missed: lines in
-- order; in a line its length (1), its kind word (2), its fields from the left (3 before 4, letters 5), two ends that
-- differ (6); last that no byte follows (7).
use Rattle.std.specs.Prelude.{ℕ, zero, suc, ◌+◌, ◌-◌, ◌*◌, Bool, cond, not, ◌&&◌, List, [], ◌∷◌, ◌++◌, length, take, drop, is_some, Some, None, Ok, Err, codes, Option, Result, ◌==◌, nat_le, slice_index}
use Rattle.formats.specs.declared.refusal.Refusal.{Refusal}
use Rattle.formats.specs.declared.refusal.Refusal.TheVariants.{BadLine, WrongKind, BadNumber, OutOfRange, WrongLetter, SameEnds, TrailingBytes}
use Rattle.formats.specs.Fields.{number_in}
use Rattle.formats.specs.Letters.{valve_of, is_pattern}
use Rattle.formats.specs.Lines.{ended, first_line, after_line}
use Rattle.formats.specs.Sheets.{of_kind, blank}

pub record Condition : Type 0 where
  pub met : Bool
  pub refusal : Refusal

unfoldable pub first_missed : List Condition → Option Refusal
first_missed [] = None
first_missed (c ∷ cs) = cond c.met (first_missed cs) (Some c.refusal)

-- what a reading was refused for
abbrev pub missed : {A : Type 0} → Result A Refusal → Option Refusal
missed (Ok x) = None
missed (Err e) = Some e

-- field k of a line, and its number, or 0 where it is none
abbrev pub field : ℕ → List ℕ → Option ℕ
field k l = number_in (take 5 (drop (4 + 5 * k) l))

abbrev pub number_or : Option ℕ → ℕ
number_or None = 0
number_or (Some n) = n

-- line i: there, with so many columns, and of its kind
abbrev pub line_conditions : List ℕ → ℕ → ℕ → List ℕ → List Condition
line_conditions kind columns i bs =
    record { met = ended bs && (length (first_line bs) == columns); refusal = BadLine i }
    ∷ record { met = of_kind kind (first_line bs); refusal = WrongKind i }
    ∷ []

-- a number: well written, and in its range
abbrev pub number_conditions : ℕ → ℕ → ℕ → Option ℕ → List Condition
number_conditions i least most o =
    record { met = is_some o; refusal = BadNumber i }
    ∷ record { met = nat_le least (number_or o) && nat_le (number_or o) most; refusal = OutOfRange i }
    ∷ []

-- two ends differ
abbrev pub ends_conditions : ℕ → ℕ → ℕ → List Condition
ends_conditions i a b = record { met = not (a == b); refusal = SameEnds i } ∷ []

-- blank columns, then the valve's letter
abbrev pub valve_conditions : ℕ → List ℕ → List Condition
valve_conditions i l =
    record { met = blank l; refusal = BadNumber i }
    ∷ record { met = is_some (valve_of (slice_index l 23)); refusal = WrongLetter i }
    ∷ []

-- the NETW line: junctions, pipes, pump, outlet
abbrev pub header_conditions : ℕ → ℕ → List ℕ → List Condition
header_conditions most i l =
    number_conditions i 2 most (field 0 l)
    ++ (number_conditions i 0 512 (field 1 l)
    ++ (number_conditions i 0 (number_or (field 0 l) - 1) (field 2 l)
    ++ (number_conditions i 0 (number_or (field 0 l) - 1) (field 3 l)
    ++ ends_conditions i (number_or (field 2 l)) (number_or (field 3 l)))))

-- a PIPE line: from, to, limit, valve
abbrev pub pipe_conditions : ℕ → ℕ → List ℕ → List Condition
pipe_conditions junctions i l =
    number_conditions i 0 (junctions - 1) (field 0 l)
    ++ (number_conditions i 0 (junctions - 1) (field 1 l)
    ++ (number_conditions i 1 60000 (field 2 l)
    ++ (valve_conditions i l
    ++ ends_conditions i (number_or (field 0 l)) (number_or (field 1 l)))))

-- k pipe lines from line i on
abbrev pub pipes_conditions : ℕ → ℕ → ℕ → List ℕ → List Condition
pipes_conditions zero junctions i bs = []
pipes_conditions (suc k) junctions i bs =
    (line_conditions (codes "PIPE") 24 i bs ++ pipe_conditions junctions i (first_line bs)) ++ pipes_conditions k junctions (i + 1) (after_line bs)

-- the numbers of junctions and pipes in the first line of a sheet
abbrev pub junctions_said : List ℕ → ℕ
junctions_said bs = number_or (field 0 (first_line bs))

abbrev pub pipes_said : List ℕ → ℕ
pipes_said bs = number_or (field 1 (first_line bs))

-- the number of steps in the first line of a schedule
abbrev pub schedule_steps_said : List ℕ → ℕ
schedule_steps_said bs = number_or (field 0 (first_line bs))

-- a sheet from line i on
unfoldable pub sheet_conditions : ℕ → ℕ → List ℕ → List Condition
sheet_conditions most i bs =
    (line_conditions (codes "NETW") 24 i bs ++ header_conditions most i (first_line bs))
    ++ pipes_conditions (pipes_said bs) (junctions_said bs) (i + 1) (after_line bs)

-- a STEP line: minutes, pattern
abbrev pub step_conditions : ℕ → List ℕ → List Condition
step_conditions i l = number_conditions i 1 1440 (field 0 l) ++ record { met = is_pattern (drop 9 l); refusal = WrongLetter i } ∷ []

-- k step lines from line i on, and no byte after them
abbrev pub steps_conditions : ℕ → ℕ → ℕ → List ℕ → List Condition
steps_conditions zero pipes i bs = record { met = (length bs == 0); refusal = TrailingBytes i } ∷ []
steps_conditions (suc k) pipes i bs =
    (line_conditions (codes "STEP") (9 + pipes) i bs ++ step_conditions i (first_line bs)) ++ steps_conditions k pipes (i + 1) (after_line bs)

-- a schedule from line i on
unfoldable pub schedule_conditions : ℕ → ℕ → List ℕ → List Condition
schedule_conditions pipes i bs =
    line_conditions (codes "SCHD") 9 i bs
    ++ (number_conditions i 1 100 (field 0 (first_line bs))
    ++ steps_conditions (schedule_steps_said bs) pipes (i + 1) (after_line bs))

-- the bytes behind k lines
abbrev pub after_lines : ℕ → List ℕ → List ℕ
after_lines zero bs = bs
after_lines (suc k) bs = after_lines k (after_line bs)

-- what follows the lines of a sheet
abbrev pub after_sheet : List ℕ → List ℕ
after_sheet bs = after_lines (pipes_said bs) (after_line bs)

-- the number of steps in a text
abbrev pub steps_said : List ℕ → ℕ
steps_said bs = schedule_steps_said (after_sheet bs)

-- a text: a sheet, and a schedule behind its lines
unfoldable pub text_conditions : ℕ → List ℕ → List Condition
text_conditions most bs = sheet_conditions most 1 bs ++ schedule_conditions (pipes_said bs) (2 + pipes_said bs) (after_sheet bs)
