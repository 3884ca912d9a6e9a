-- Which junctions are reached over residual steps.
use Rattle.std.specs.Prelude.{◌≡◌, ℕ, ◌^◌, ◌<◌, true, not, List, Decides}
use Rattle.network.specs.declared.step.Step.{Step}
use Rattle.network.specs.Cuts.{has}
use Rattle.network.specs.Network.{Network}
use Rattle.network.specs.Residual.{tail, head, Residual}

-- a residual step from a to b
pub record Edge (w : Network) (f : List ℕ) (a b : ℕ) : Type 0 where
  pub step : Step
  pub residual : Residual w f step
  pub starts : tail w step ≡ a
  pub ends : head w step ≡ b

-- residual steps lead from one junction to the other
pub data Reaches (w : Network) (f : List ℕ) : ℕ → ℕ → Type 0 where
  here : {a : ℕ} → Reaches w f a a
  on : {a b c : ℕ} → Edge w f a b → Reaches w f b c → Reaches w f a c

-- no residual step leaves the set
abbrev pub Sealed : Network → List ℕ → ℕ → Type 0
Sealed w f s = (a b : ℕ) → Edge w f a b → has s a ≡ true → has s b ≡ true

-- s is the set of the junctions that a reaches
pub record Reached (w : Network) (f : List ℕ) (a s : ℕ) : Type 0 where
  pub inside : s < 2 ^ w.junctions
  pub bits : (k : ℕ) → k < w.junctions → Decides (has s k) (Reaches w f a k)

-- s is the set of the junctions that do not reach b
pub record Apart (w : Network) (f : List ℕ) (b s : ℕ) : Type 0 where
  pub inside : s < 2 ^ w.junctions
  pub bits : (k : ℕ) → k < w.junctions → Decides (not (has s k)) (Reaches w f k b)
