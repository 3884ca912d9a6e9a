-- Whole texts: a sheet, and behind it a schedule for its network, up to the end.
use Rattle.std.specs.Prelude.{ℕ, ◌+◌, List, ◌++◌, Ok, Result}
use Rattle.network.specs.Network.{Network}
use Rattle.network.specs.Residual.{size}
use Rattle.formats.specs.declared.refusal.Refusal.{Refusal}
use Rattle.formats.specs.Schedules.{Timed, schedule_in}
use Rattle.formats.specs.Sheets.{and_then, sheet_in}
use Rattle.formats.specs.Written.{sheet_of, schedule_of}

-- the text of a network and a schedule
unfoldable pub text_of : Network → List Timed → List ℕ
text_of w ss = sheet_of w ++ schedule_of ss

-- the schedule for a network, up to the end of the text; the lines of the network's sheet come before it
unfoldable pub schedule_for : Network → List ℕ → Result (Network × List Timed) Refusal
schedule_for w bs = and_then (schedule_in (size w) (2 + size w) bs) (λ ss. Ok (w, ss))

-- what a text says, or the first condition that it misses: a sheet of at most so many junctions, and then a schedule
unfoldable pub text_in : ℕ → List ℕ → Result (Network × List Timed) Refusal
text_in most text = and_then (sheet_in most 1 text) (λ r. schedule_for r.0 r.1)
