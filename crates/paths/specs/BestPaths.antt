-- What a search answers.
use Rattle.std.specs.Prelude.{◌≡◌, ℕ, List, [], ◌∷◌, map, get_or, Some, None, Option, slice_index_or}
use Rattle.network.specs.declared.step.Step.{Step}
use Rattle.network.specs.Network.{Network}
use Rattle.network.specs.Residual.{tail, weight}
use Rattle.network.specs.Paths.{Path}
use Rattle.paths.specs.declared.label.Label.{Label}

-- the length of these steps, last step first
abbrev pub length_of : {Λ : Type 0} → Network → List ℕ → Λ → (Λ → ℕ → Λ) → List Step → Λ
length_of w f start extended [] = start
length_of w f start extended (s ∷ ss) = extended (length_of w f start extended ss) (weight w f s)

-- the step that leads into junction b
abbrev pub via_at : {L : Type 0} → List (Label L) → ℕ → Option Step
via_at ls b = slice_index_or (map (λ l. l.via) ls) b None

-- following these back from b spells the steps, up to a
abbrev pub Chain : Network → ℕ → (ℕ → Option Step) → List Step → ℕ → Type 0
Chain w a via [] b = (b ≡ a) × (via b ≡ None)
Chain w a via (s ∷ ss) b = (via b ≡ Some s) × Chain w a via ss (tail w s)

-- l is the label at b; following the labels back from b spells a path from a, whose length it has, and no path's is better
pub record BestAt {L Λ : Type 0} (w : Network) (f : List ℕ) (a b : ℕ) (means : L → Λ) (good : Λ → Λ → Type 0) (start : Λ) (extended : Λ → ℕ → Λ) (ls : List (Label L)) (l : Label L) : Type 0 where
  pub steps : List Step
  pub stands : get_or ls b l ≡ l
  pub spelled : Chain w a (via_at ls) steps b
  pub leads : Path w f a steps b
  pub is : means l.length ≡ length_of w f start extended steps
  pub best : (qs : List Step) → Path w f a qs b → good (length_of w f start extended steps) (length_of w f start extended qs)

-- a best path from a to b, or that there is none
abbrev pub Answer : {L Λ : Type 0} → Network → List ℕ → ℕ → ℕ → (L → Λ) → (Λ → Λ → Type 0) → Λ → (Λ → ℕ → Λ) → List (Label L) → Option (Label L) → Type 0
Answer w f a b means good start extended ls (Some l) = BestAt w f a b means good start extended ls l
Answer w f a b means good start extended ls None = (qs : List Step) → Path w f a qs b → ⊥
