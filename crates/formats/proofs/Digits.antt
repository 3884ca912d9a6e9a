-- Numbers in fields: what a step reads.
use Rattle.std.proofs.Common.{◌≡◌, ℕ, ◌+◌, ◌-◌, ◌*◌, ◌<◌, ◌≤◌, List, ◌∷◌, arith}
use Rattle.std.proofs.lemmas.Bool.Decides.{nat_tests}
use Rattle.formats.specs.Fields.{digits_from, number_in}

abbrev pub next : ℕ → ℕ → ℕ
next n b = n * 10 + (b - 48)

pub good : (n b : ℕ) (bs : List ℕ) → 48 ≤ b → b ≤ 57 → next n b < 4294967296 → digits_from n (b ∷ bs) ≡ digits_from (next n b) bs
good n b bs h k l = grind (arith, nat_tests)

pub other : (b : ℕ) (bs : List ℕ) → (b ≡ 32 → ⊥) → (b ≡ 48 → ⊥) → number_in (b ∷ bs) ≡ digits_from 0 (b ∷ bs)
other b bs h k = grind (arith, nat_tests)
