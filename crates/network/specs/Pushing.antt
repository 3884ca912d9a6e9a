-- Pushing an amount along steps, and what that does at the junctions.
use Rattle.std.specs.Prelude.{◌≡◌, ℕ, ◌+◌, ◌-◌, List, [], ◌∷◌, ◌==◌, slice_set}
use Rattle.network.specs.declared.step.Direction.{Direction}
use Rattle.network.specs.declared.step.Direction.TheVariants.{Along, Against}
use Rattle.network.specs.declared.step.Step.{Step}
use Rattle.network.specs.Flows.{outflow, inflow}
use Rattle.network.specs.Network.{Network}
use Rattle.network.specs.Residual.{carried}
use Rattle.network.specs.Sums.{only}

-- c more along a pipe that carries x, or c less against it
abbrev pub moved : Direction → ℕ → ℕ → ℕ
moved Along x c = x + c
moved Against x c = x - c

abbrev pub push : List ℕ → ℕ → Step → List ℕ
push f c s = slice_set f s.pipe (moved s.direction (carried f s.pipe) c)

-- c more on each of the steps
abbrev pub pushed : List ℕ → ℕ → List Step → List ℕ
pushed f c [] = f
pushed f c (s ∷ ss) = pushed (push f c s) c ss

-- from f to g, outflow less inflow is c more at a, c less at b, and else as it was
abbrev pub Shifts : Network → List ℕ → List ℕ → ℕ → ℕ → ℕ → Type 0
Shifts w f g a b c = (j : ℕ) → outflow w g j + inflow w f j + only (b == j) c ≡ outflow w f j + inflow w g j + only (a == j) c
