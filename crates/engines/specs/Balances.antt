-- Conservation of a flow, as one fact about each junction.
use Rattle.std.specs.Prelude.{◌≡◌, ℕ, ◌<◌, ◌≢◌, List}
use Rattle.network.specs.Flows.{outflow, inflow}
use Rattle.network.specs.Network.{Network}

-- a junction other than pump and outlet
abbrev pub Inner : Network → ℕ → Type 0
Inner w j = (j < w.junctions) × (j ≢ w.pump) × (j ≢ w.outlet)

abbrev pub Balanced : Network → List ℕ → Type 0
Balanced w f = (j : ℕ) → Inner w j → outflow w f j ≡ inflow w f j
