-- The rating page of a network and a schedule, byte for byte.
use Rattle.std.specs.Prelude.{ℕ, zero, suc, ◌+◌, ◌*◌, Bool, List, [], ◌∷◌, ◌++◌}
use Rattle.network.specs.Governing.{governing}
use Rattle.network.specs.Network.{Network}
use Rattle.network.specs.Reports.{report_of}
use Rattle.network.specs.Residual.{size}
use Rattle.formats.specs.Pages.{rate_line, governing_line, total_line}
use Rattle.formats.specs.Schedules.{Timed}
use Rattle.interface.specs.Verdicts.{patterned}

-- of the first n pipes, which are governing
unfoldable pub governing_row : Network → ℕ → List Bool
governing_row w zero = []
governing_row w (suc n) = governing_row w n ++ governing w (report_of w) n ∷ []

-- the two lines of step i, at which the network is w
unfoldable pub step_lines : ℕ → Network → List ℕ
step_lines i w = rate_line i (report_of w) w.junctions ++ governing_line i (governing_row w (size w))

-- A step sets the valves of the network of the step before.
unfoldable pub stepped : Network → Timed → Network
stepped w s = patterned w s.letters

-- the lines of the steps, of which step i is the first, after the network w
unfoldable pub all_lines : ℕ → Network → List Timed → List ℕ
all_lines i w [] = []
all_lines i w (s ∷ ss) = step_lines i (stepped w s) ++ all_lines (i + 1) (stepped w s) ss

-- the litres of the steps: each counts all its minutes at its own value
unfoldable pub litres : Network → List Timed → ℕ
litres w [] = 0
litres w (s ∷ ss) = (report_of (stepped w s)).value * s.minutes + litres (stepped w s) ss

-- the network at the last step
unfoldable pub last_network : Network → List Timed → Network
last_network w [] = w
last_network w (s ∷ ss) = last_network (stepped w s) ss

unfoldable pub page_of : Network → List Timed → List ℕ
page_of w ss = all_lines 1 w ss ++ total_line (litres w ss)

-- how many bytes a page has
abbrev pub page_length_of : ℕ → ℕ → ℕ → ℕ
page_length_of steps junctions pipes = steps * (junctions + pipes + 29) + 19
