-- Paths in the residual graph. The steps of a path are listed from its end: the last step comes first.
use Rattle.std.specs.Prelude.{◌≡◌, ℕ, List, [], ◌∷◌, ◌≢◌}
use Rattle.std.specs.List.{AllByRecursion}
use Rattle.network.specs.declared.step.Step.{Step}
use Rattle.network.specs.Network.{Network}
use Rattle.network.specs.Residual.{tail, head, Residual}

-- junction b is neither a nor the end of one of these steps
abbrev pub Fresh : Network → ℕ → ℕ → List Step → Type 0
Fresh w a b ss = (b ≢ a) × AllByRecursion (λ s. head w s ≢ b) ss

-- the steps lead from a to b over residual steps, and visit no junction twice
abbrev pub Path : Network → List ℕ → ℕ → List Step → ℕ → Type 0
Path w f a [] b = b ≡ a
Path w f a (s ∷ ss) b = Residual w f s × (head w s ≡ b) × Fresh w a b ss × Path w f a ss (tail w s)
