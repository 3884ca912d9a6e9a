-- The texts that are written: a line has its kind word and its columns, and ends in a line feed, the byte 10.
use Rattle.std.specs.Prelude.{ℕ, List, [], ◌∷◌, ◌++◌, length, codes}
use Rattle.std.specs.List.{flat_map}
use Rattle.network.specs.declared.valve.Valve.{Valve}
use Rattle.network.specs.declared.valve.Valve.TheVariants.{Open, Closed}
use Rattle.network.specs.Network.{Pipe, Network}
use Rattle.formats.specs.Fields.{written}
use Rattle.formats.specs.Schedules.{Timed}

-- O (79) for an open valve, C (67) for a closed one
abbrev pub valve_letter : Valve → ℕ
valve_letter Open = 79
valve_letter Closed = 67

-- junctions, pipes, pump, outlet
unfoldable pub header_columns : Network → List ℕ
header_columns w = codes "NETW" ++ (written 5 w.junctions ++ (written 5 (length w.pipes) ++ (written 5 w.pump ++ written 5 w.outlet)))

abbrev pub header_line : Network → List ℕ
header_line w = header_columns w ++ 10 ∷ []

-- from, to, limit, four blanks, the valve's letter
unfoldable pub pipe_columns : Pipe → List ℕ
pipe_columns p = codes "PIPE" ++ (written 5 p.from ++ (written 5 p.to ++ (written 5 p.limit ++ (codes "    " ++ valve_letter p.valve ∷ []))))

abbrev pub pipe_line : Pipe → List ℕ
pipe_line p = pipe_columns p ++ 10 ∷ []

-- a sheet: the line of the network, and a line for each pipe
unfoldable pub sheet_of : Network → List ℕ
sheet_of w = header_line w ++ flat_map pipe_line w.pipes

-- the number of steps
unfoldable pub count_columns : ℕ → List ℕ
count_columns n = codes "SCHD" ++ written 5 n

abbrev pub count_line : ℕ → List ℕ
count_line n = count_columns n ++ 10 ∷ []

-- minutes, and the pattern
unfoldable pub step_columns : Timed → List ℕ
step_columns s = codes "STEP" ++ (written 5 s.minutes ++ s.letters)

abbrev pub step_line : Timed → List ℕ
step_line s = step_columns s ++ 10 ∷ []

-- a schedule: the line of its number of steps, and a line for each step
unfoldable pub schedule_of : List Timed → List ℕ
schedule_of ss = count_line (length ss) ++ flat_map step_line ss
