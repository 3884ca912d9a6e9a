-- Junctions connected over residual steps, in either sense: Along, those that a junction reaches; Against, those that reach it.
use Rattle.std.specs.Prelude.{◌≡◌, ℕ, ◌^◌, ◌<◌, ◌≤◌, true, List, Decides}
use Rattle.network.specs.declared.step.Direction.{Direction}
use Rattle.network.specs.declared.step.Direction.TheVariants.{Along, Against}
use Rattle.network.specs.declared.step.Step.{Step}
use Rattle.network.specs.Cuts.{has}
use Rattle.network.specs.Network.{Pipe, Network}
use Rattle.network.specs.Reaches.{Reaches}
use Rattle.network.specs.Residual.{pipe, start_by, end_by, Residual}

abbrev pub Connects : Direction → Network → List ℕ → ℕ → ℕ → Type 0
Connects Along w f a k = Reaches w f a k
Connects Against w f a k = Reaches w f k a

-- s is the set of the junctions that a is connected to; Along this is `Reached`
pub record Closure (sense : Direction) (w : Network) (f : List ℕ) (a s : ℕ) : Type 0 where
  pub inside : s < 2 ^ w.junctions
  pub bits : (k : ℕ) → k < w.junctions → Decides (has s k) (Connects sense w f a k)

-- the end of a step from which a set spreads, and the end that it spreads to
abbrev pub near_by : Direction → Direction → Pipe → ℕ
near_by Along d p = start_by d p
near_by Against d p = end_by d p

abbrev pub far_by : Direction → Direction → Pipe → ℕ
far_by Along d p = end_by d p
far_by Against d p = start_by d p

abbrev pub near_end : Direction → Network → Step → ℕ
near_end sense w s = near_by sense s.direction (pipe w s.pipe)

abbrev pub far_end : Direction → Network → Step → ℕ
far_end sense w s = far_by sense s.direction (pipe w s.pipe)

-- each junction of the set is connected
abbrev pub From : Direction → Network → List ℕ → ℕ → ℕ → Type 0
From sense w f a s = (k : ℕ) → has s k ≡ true → Connects sense w f a k

-- a set that has become another by residual steps
pub record Spread (sense : Direction) (w : Network) (f : List ℕ) (old new : ℕ) : Type 0 where
  pub inside : old < 2 ^ w.junctions → new < 2 ^ w.junctions
  pub grows : old ≤ new
  pub keeps : (k : ℕ) → has old k ≡ true → has new k ≡ true
  pub from : (a : ℕ) → From sense w f a old → From sense w f a new

-- with the step's near end the set got its far end
abbrev pub Crossed : Direction → Network → List ℕ → ℕ → ℕ → Step → Type 0
Crossed sense w f old new s = Residual w f s → has old (near_end sense w s) ≡ true → has new (far_end sense w s) ≡ true
