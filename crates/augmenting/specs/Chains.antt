-- The steps that labels spell.
use Rattle.std.specs.Prelude.{ℕ, zero, suc, ◌<◌, ◌≤◌, ◌≢◌, List, [], ◌∷◌, Some, None, Option}
use Rattle.std.specs.List.{AllByRecursion}
use Rattle.network.specs.declared.step.Step.{Step}
use Rattle.network.specs.Network.{Network}
use Rattle.network.specs.Residual.{tail, size, weight}

-- following `via` back from b spells these steps, of which at most n are taken; the last step of the path comes first
abbrev pub spelled : Network → (ℕ → Option Step) → ℕ → ℕ → List Step
spelled w via zero b = []
spelled w via (suc n) b = elim (via b) [ None ↦ [] | Some s ↦ s ∷ spelled w via n (tail w s) ]

-- the step is there, and takes c more
abbrev pub Takes : Network → List ℕ → ℕ → Step → Type 0
Takes w f c s = (s.pipe < size w) × (c ≤ weight w f s)

-- no pipe is used twice
abbrev pub Once : List Step → Type 0
Once [] = Unit {0}
Once (s ∷ ss) = AllByRecursion (λ t. t.pipe ≢ s.pipe) ss × Once ss
