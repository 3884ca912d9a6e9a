-- Cuts of a network. A set of junctions is a word: bit k stands for junction k.
use Rattle.std.specs.Prelude.{◌≡◌, ℕ, ◌/◌, ◌%◌, ◌^◌, ◌<◌, ◌≤◌, Bool, true, false, not, ◌&&◌, ◌↔◌, sum_by, ◌==◌}
use Rattle.network.specs.Network.{Pipe, Network}
use Rattle.network.specs.Sums.{only}
use Rattle.network.specs.Valves.{room}

-- junction k is in the set
abbrev pub has : ℕ → ℕ → Bool
has s k = s / 2 ^ k % 2 == 1

-- a set of the network's junctions with the pump inside and the outlet outside
pub record Cut (w : Network) (s : ℕ) : Type 0 where
  pub inside : s < 2 ^ w.junctions
  pub pump_in : has s w.pump ≡ true
  pub outlet_out : has s w.outlet ≡ false

-- a pipe leads from inside the set to outside
abbrev pub leaves : (ℕ → Bool) → Pipe → Bool
leaves inside p = inside p.from && not (inside p.to)

-- the sum of the limits of the open pipes that leave the set
abbrev pub capacity : Network → ℕ → ℕ
capacity w s = sum_by (λ p. only (leaves (has s) p) (room p.valve p.limit)) w.pipes

-- a cut such that every cut has at least its capacity
pub record Minimum (w : Network) (s : ℕ) : Type 0 where
  pub cut : Cut w s
  pub least : (t : ℕ) → Cut w t → capacity w s ≤ capacity w t

-- junction k is inside every minimum cut; inside at least one
abbrev pub InEvery : Network → ℕ → Type 0
InEvery w k = (s : ℕ) → Minimum w s → has s k ≡ true

abbrev pub InSome : Network → ℕ → Type 0
InSome w k = (s : ℕ) × Minimum w s × (has s k ≡ true)

-- there is a minimum cut, and every minimum cut is that one
abbrev pub OneMinimum : Network → Type 0
OneMinimum w = (s : ℕ) × Minimum w s × ((t : ℕ) → Minimum w t → t ≡ s)

-- two networks, of as many junctions or not: their minimum cuts agree in the capacity, in the junctions that all have, and in those that at least one has
pub record SameCuts (w u : Network) : Type 0 where
  pub capacities : (s t : ℕ) → Minimum w s → Minimum u t → capacity w s ≡ capacity u t
  pub every : (k : ℕ) → InEvery w k ↔ InEvery u k
  pub some : (k : ℕ) → InSome w k ↔ InSome u k
