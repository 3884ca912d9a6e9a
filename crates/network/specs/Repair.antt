-- A flow torn by a change, which is yet to be mended.
use Rattle.std.specs.Prelude.{◌≡◌, ℕ, ◌+◌, ◌<◌, List, ◌==◌}
use Rattle.network.specs.Flows.{outflow, inflow, Within}
use Rattle.network.specs.Network.{Network}
use Rattle.network.specs.Sums.{only}

-- a litres go in at the pump and b come out at the outlet, c are left over at junction i and d are lacking at j
pub record Torn (w : Network) (g : List ℕ) (i j a b c d : ℕ) : Type 0 where
  pub within : Within w g
  pub nets : (k : ℕ) → k < w.junctions →
      outflow w g k + only (w.outlet == k) b + only (i == k) c ≡ inflow w g k + only (w.pump == k) a + only (j == k) d
