-- The rules that rows of a table keep.
use Rattle.std.specs.Prelude.{◌≡◌, ℕ, ◌<◌, ◌≤◌, ◌≢◌, List, slice_index_or}
use Rattle.network.specs.declared.valve.Valve.TheVariants.{Closed}
use Rattle.network.specs.declared.row.Row.{Row}
use Rattle.network.specs.Valves.{room}

abbrev pub no_row : Row
no_row = record { from = 0; to = 0; limit = 0; flow = 0; valve = Closed }

-- the flow is at most what the valve lets through
abbrev pub SoundFlow : Row → Type 0
SoundFlow r = r.flow ≤ room r.valve r.limit

-- the pipe carries nothing
abbrev pub Dry : Row → Type 0
Dry r = r.flow ≡ 0

-- two different ends among n junctions
abbrev pub Joined : ℕ → Row → Type 0
Joined n r = (r.from < n) × (r.to < n) × (r.from ≢ r.to)

abbrev pub Limited : Row → Type 0
Limited r = (1 ≤ r.limit) × (r.limit ≤ 60000)

-- a rule kept by each of the first `count` rows
abbrev pub Each : (Row → Type 0) → List Row → ℕ → Type 0
Each Rule rows count = (k : ℕ) → k < count → Rule (slice_index_or rows k no_row)
