-- How an augmentation brings the value nearer to its bound.
use Rattle.std.proofs.Common.{ℕ, ◌+◌, ◌-◌, ◌<◌, ◌≤◌, List, arith}
use Rattle.network.specs.Flows.{Flow, outflow, inflow}
use Rattle.network.specs.Network.{Network, Wired}
use Rattle.network.specs.Reports.{least_capacity}
use Rattle.interface.specs.Augmentations.{Augments}
use Rattle.augmenting.proofs.Weights.{augmented_flow, augmented_net, bounded}

module _ {Λ : Type 0} {good : Λ → Λ → Type 0} {start : Λ} {extended : Λ → ℕ → Λ} (w : Network) (wired : Wired w) (most : ℕ) (f : List ℕ) (c : ℕ) (g : List ℕ)
    (aug : Augments w good start extended w.pump w.outlet most f c g) (flow : Flow w f) where
  pub nearer : least_capacity w + inflow w g w.pump - outflow w g w.pump < least_capacity w + inflow w f w.pump - outflow w f w.pump
  nearer = omega (arith, augmented_net w wired most f c g aug flow, bounded w wired g (augmented_flow w wired most f c g aug flow), aug.some)

  pub one_more : (n : ℕ) → n + inflow w f w.pump ≤ outflow w f w.pump → n + 1 + inflow w g w.pump ≤ outflow w g w.pump
  one_more n h = omega (arith, augmented_net w wired most f c g aug flow, aug.some)
