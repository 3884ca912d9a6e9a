-- Flows on a network. A flow is a list of numbers: what each pipe carries.
use Rattle.std.specs.Prelude.{◌≡◌, ℕ, ◌<◌, ◌≤◌, ◌≢◌, List, length, replicate, ℤ, pos, ◌-ℤ◌, ◌≤ℤ◌, ◌==◌}
use Rattle.network.specs.Network.{Network}
use Rattle.network.specs.Residual.{pipe, size, carried}
use Rattle.network.specs.Sums.{total, only}
use Rattle.network.specs.Valves.{room}

-- what the pipes that begin at junction j carry, and those that end there
abbrev pub outflow : Network → List ℕ → ℕ → ℕ
outflow w f j = total (size w) (λ k. only ((pipe w k).from == j) (carried f k))

abbrev pub inflow : Network → List ℕ → ℕ → ℕ
inflow w f j = total (size w) (λ k. only ((pipe w k).to == j) (carried f k))

-- a number for each pipe, at most the pipe's limit, and 0 where the valve is closed
pub record Within (w : Network) (f : List ℕ) : Type 0 where
  pub each : length f ≡ size w
  pub limits : (k : ℕ) → k < size w → carried f k ≤ room (pipe w k).valve (pipe w k).limit

-- what comes into a junction goes out of it, but at the pump and the outlet
abbrev pub Conserves : Network → List ℕ → Type 0
Conserves w f = (j : ℕ) → j < w.junctions → j ≢ w.pump → j ≢ w.outlet → outflow w f j ≡ inflow w f j

pub record Flow (w : Network) (f : List ℕ) : Type 0 where
  pub within : Within w f
  pub conserves : Conserves w f

-- dry pipes: no pipe carries anything
abbrev pub dry : Network → List ℕ
dry w = replicate (size w) 0

-- the outflow of the pump less its inflow; it may be negative
abbrev pub value : Network → List ℕ → ℤ
value w f = pos (outflow w f w.pump) -ℤ pos (inflow w f w.pump)

-- a flow that no flow exceeds in value
pub record Greatest (w : Network) (f : List ℕ) : Type 0 where
  pub flow : Flow w f
  pub greatest : (g : List ℕ) → Flow w g → value w g ≤ℤ value w f
