-- Path metrics: lengths of paths, their order, and the laws that the search asks of them.
use Rattle.std.specs.Prelude.{◌≡◌, ℕ, suc, ◌≤◌, ◌⊎◌}

-- got from start by at most n extensions, with weights from 0 to 60,000
pub data Got {Λ : Type 0} (start : Λ) (extended : Λ → ℕ → Λ) : ℕ → Λ → Type 0 where
  begun : {n : ℕ} {l : Λ} → l ≡ start → Got start extended n l
  longer : {n : ℕ} {l : Λ} (k : Λ) (w : ℕ) → Got start extended n k → w ≤ 60000 → l ≡ extended k w → Got start extended (suc n) l

-- none, or got so
abbrev pub InRange : {Λ : Type 0} → Λ → Λ → (Λ → ℕ → Λ) → ℕ → Λ → Type 0
InRange start none extended n l = (l ≡ none) ⊎ Got start extended n l

pub record Laws {Λ : Type 0} (good : Λ → Λ → Type 0) (start none : Λ) (extended : Λ → ℕ → Λ) : Type 0 where
  -- 1: the order is total, and two lengths each as good as the other are the same
  pub itself : (a : Λ) → good a a
  pub trans : (a b c : Λ) → good a b → good b c → good a c
  pub total : (a b : Λ) → good a b ⊎ good b a
  pub same : (a b : Λ) → good a b → good b a → a ≡ b
  -- 2: start is at least as good as every length, and every length as none; start is not none
  pub start_best : (a : Λ) → good start a
  pub none_worst : (a : Λ) → good a none
  pub apart : start ≡ none → ⊥
  -- 3: a length extended is not better than before
  pub not_better : (a : Λ) (w : ℕ) → InRange start none extended 63 a → w ≤ 60000 → good a (extended a w)
  -- 4: of two lengths the one at least as good is still so after the same extension of both
  pub keeps : (a b : Λ) (w : ℕ) → InRange start none extended 63 a → InRange start none extended 63 b → w ≤ 60000 → good a b → good (extended a w) (extended b w)
  -- 5: an extended length is none exactly when it was none before or the weight is 0
  pub none_from : (a : Λ) (w : ℕ) → InRange start none extended 63 a → w ≤ 60000 → extended a w ≡ none → (a ≡ none) ⊎ (w ≡ 0)
  pub none_at : (a : Λ) (w : ℕ) → InRange start none extended 63 a → w ≤ 60000 → (a ≡ none) ⊎ (w ≡ 0) → extended a w ≡ none
