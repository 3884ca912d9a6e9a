-- A rule that each row of a table keeps, while rows are written.
use Rattle.std.proofs.Common.{◌≡◌, ℕ, ◌+◌, ◌<◌, List, length, get_or, set, sym, subst, inl, inr, arith}
use Rattle.std.proofs.lemmas.Bool.{cases_eq}
use Rattle.std.proofs.lemmas.List.{get_or-set_same, get_or-set_other}
use Rattle.network.specs.declared.row.Row.{Row}
use Rattle.network.specs.Rows.{no_row, Each}

module _ (Rule : Row → Type 0) (rows : List Row) (i : ℕ) (row : Row) (inside : i < length rows) (here : Rule row) where
  put : (k : ℕ) → ((k ≡ i → ⊥) → Rule (get_or rows k no_row)) → Rule (get_or (set rows i row) k no_row)
  put k there = elim (cases_eq k i) [
    | inl e ↦ subst (λ (j : ℕ). Rule (get_or (set rows i row) j no_row)) (sym e) (subst Rule (sym (get_or-set_same rows i row no_row inside)) here)
    | inr n ↦ subst Rule (sym (get_or-set_other rows i k row no_row n)) (there n)
  ]

  -- one row more
  pub each_more : Each Rule rows i → Each Rule (set rows i row) (i + 1)
  each_more old k h = put k (λ n. old k (omega arith))

  -- another row in the place of one
  pub each_set : (count : ℕ) → Each Rule rows count → Each Rule (set rows i row) count
  each_set count old k h = put k (λ n. old k h)
