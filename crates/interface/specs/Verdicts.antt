-- What each call does: the first condition that it misses, or the network that the engine means after it, or the answer.
-- `most` is the most junctions that the engine takes, `places` the number of workspace places that the call is given.
use Rattle.std.specs.Prelude.{ℕ, ◌-◌, Bool, cond, ◌&&◌, List, [], ◌∷◌, length, ℤ, pos, ◌-ℤ◌, Some, None, Ok, Err, Option, Result, ◌==◌, nat_le, nat_lt}
use Rattle.network.specs.declared.report.Report.{Report}
use Rattle.network.specs.Changes as changes
use Rattle.network.specs.Governing.{is_open, governing}
use Rattle.network.specs.Network.{Pipe, Network}
use Rattle.network.specs.Reports.{report_of}
use Rattle.network.specs.Residual.{pipe, size}
use Rattle.formats.specs.declared.refusal.Refusal.{Refusal}
use Rattle.formats.specs.declared.refusal.Refusal.TheVariants.{BadLine, OutOfRange, WrongLetter, NoSuchPipe, FewPlaces, LittleSpace, AlreadyOpen, AlreadyClosed}
use Rattle.formats.specs.declared.setting.Setting.{Setting}
use Rattle.formats.specs.Letters.{setting_of, set_to, is_pattern}
use Rattle.formats.specs.Sheets.{and_then, sheet_in}
use Rattle.formats.specs.Written.{sheet_of}

-- Too small a workspace comes before all else.
abbrev pub with_places : {A : Type 0} → ℕ → ℕ → Result A Refusal → Result A Refusal
with_places most places r = cond (nat_lt places most) (Err FewPlaces) r

-- Then a number that is no pipe's.
abbrev pub with_number : {A : Type 0} → Network → ℕ → Result A Refusal → Result A Refusal
with_number w k r = cond (nat_lt k (size w)) r (Err NoSuchPipe)

-- Load: the network becomes the sheet's, with which the text begins; the answer is the number of bytes taken.
abbrev pub loading : ℕ → ℕ → List ℕ → Result (Network × ℕ) Refusal
loading most places text = with_places most places (and_then (sheet_in most 1 text) (λ r. Ok (r.0, length text - length r.1)))

abbrev pub set_by : Option Setting → Pipe → Pipe
set_by None p = p
set_by (Some s) p = record { from = p.from; to = p.to; limit = p.limit; valve = set_to s p.valve }

-- the pipes, each set by its letter
abbrev pub each_set_by : List ℕ → List Pipe → List Pipe
each_set_by [] ps = ps
each_set_by (b ∷ bs) [] = []
each_set_by (b ∷ bs) (p ∷ ps) = set_by (setting_of b) p ∷ each_set_by bs ps

abbrev pub patterned : Network → List ℕ → Network
patterned w bs = record { junctions = w.junctions; pump = w.pump; outlet = w.outlet; pipes = each_set_by bs w.pipes }

-- Pattern: a letter for each pipe; all valves change together. No line is concerned.
abbrev pub patterning : ℕ → ℕ → Network → List ℕ → Result Network Refusal
patterning most places w bs =
    with_places most places (cond (length bs == size w) (cond (is_pattern bs) (Ok (patterned w bs)) (Err (WrongLetter 0))) (Err (BadLine 0)))

-- Open, close: the valve of pipe k, if it was not so before.
abbrev pub opening : ℕ → ℕ → Network → ℕ → Result Network Refusal
opening most places w k = with_places most places (with_number w k (cond (is_open (pipe w k).valve) (Err AlreadyOpen) (Ok (changes.with_pipe_open w k))))

abbrev pub closing : ℕ → ℕ → Network → ℕ → Result Network Refusal
closing most places w k = with_places most places (with_number w k (cond (is_open (pipe w k).valve) (Ok (changes.with_pipe_closed w k)) (Err AlreadyClosed)))

-- Limit: pipe k has the limit l from now on, open or closed.
abbrev pub limiting : ℕ → ℕ → Network → ℕ → ℕ → Result Network Refusal
limiting most places w k l = with_places most places (with_number w k (cond (nat_le 1 l && nat_le l 60000) (Ok (changes.with_pipe_limit w k l)) (Err (OutOfRange 0))))

-- Report: the network's own.
abbrev pub reporting : ℕ → ℕ → Network → Result Report Refusal
reporting most places w = with_places most places (Ok (report_of w))

-- The question whether pipe k is governing.
abbrev pub asking : ℕ → ℕ → Network → ℕ → Result Bool Refusal
asking most places w k = with_places most places (with_number w k (Ok (governing w (report_of w) k)))

-- Write the sheet, read the flow: how many bytes or numbers there are, if the space that is handed over has as many. No workspace is asked for.
abbrev pub writing : ℕ → Network → Result ℕ Refusal
writing space w = cond (nat_lt space (length (sheet_of w))) (Err LittleSpace) (Ok (length (sheet_of w)))

abbrev pub reading : ℕ → Network → Result ℕ Refusal
reading space w = cond (nat_lt space (size w)) (Err LittleSpace) (Ok (size w))

-- the change of the greatest value from one network to the other
abbrev pub change : Network → Network → ℤ
change w u = pos (report_of u).value -ℤ pos (report_of w).value
