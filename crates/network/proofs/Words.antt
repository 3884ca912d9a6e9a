-- Words as sets of junctions: their bits, and folds of `bit_and` and `bit_or`.
use Rattle.std.proofs.Common.{◌≡◌, ℕ, zero, suc, ◌+◌, ◌-◌, ◌/◌, ◌%◌, ◌^◌, ◌<◌, ◌≤◌, min, max, Bool, true, false, ◌&&◌, ◌||◌, eqb, ◌≢◌, ◌⊎◌, List, [], ◌∷◌, fold, sym, refl, ap, ◌∙◌, inl, inr, mod-eq_of_lt, arith, pow_mono}
use native.Mathlib.Nat.{div-eq_of_lt}
use lib.Bits.{bit_and, bit_or, and_step, or_step, or_add_and}
use Rattle.std.specs.List.{AllByRecursion}
use Rattle.std.proofs.lemmas.Nat.{and_shr, or_shr, and_mask, shr-shr, pow_below, or_lt, and_le_l, and_le_r}
use Rattle.std.proofs.lemmas.Bool.{cases_eq, cases_Bool, both_ways, and_parts, and_from, or_parts, or_cases, or_right}
use Rattle.std.proofs.lemmas.Bool.Decides.{nat_tests}
use Rattle.network.specs.Cuts.{has}

bit_min : (a b : ℕ) → a < 2 → b < 2 → eqb (min a b) 1 ≡ (eqb a 1 && eqb b 1)
bit_min a b h k = grind (arith, nat_tests)

bit_max : (a b : ℕ) → a < 2 → b < 2 → eqb (max a b) 1 ≡ (eqb a 1 || eqb b 1)
bit_max a b h k = grind (arith, nat_tests)

and_low : (a b : ℕ) → bit_and a b % 2 ≡ min (a % 2) (b % 2)
and_low a b = omega (arith, and_step a b)

or_low : (a b : ℕ) → bit_or a b % 2 ≡ max (a % 2) (b % 2)
or_low a b = omega (arith, or_step a b)

pub has_and : (a b k : ℕ) → has (bit_and a b) k ≡ (has a k && has b k)
has_and a b k = rw (and_shr a b k, and_low (a / 2 ^ k) (b / 2 ^ k)) (bit_min (a / 2 ^ k % 2) (b / 2 ^ k % 2) (omega arith) (omega arith))

pub has_or : (a b k : ℕ) → has (bit_or a b) k ≡ (has a k || has b k)
has_or a b k = rw (or_shr a b k, or_low (a / 2 ^ k) (b / 2 ^ k)) (bit_max (a / 2 ^ k % 2) (b / 2 ^ k % 2) (omega arith) (omega arith))

has_half : (a k : ℕ) → has a (suc k) ≡ has (a / 2) k
has_half a k =
    let e : 1 + k ≡ suc k = omega arith in
    ap (λ x. eqb (x % 2) 1) (sym (shr-shr a 1 k ∙ ap (λ x. a / 2 ^ x) e))

half_power : (k : ℕ) → 2 ^ suc k / 2 ≡ 2 ^ k
half_power k = omega arith

pub has_zero : (k : ℕ) → has 0 k ≡ false
has_zero zero = refl
has_zero (suc k) = has_half 0 k ∙ has_zero k

-- the word of one junction
pub has_power : (k : ℕ) → has (2 ^ k) k ≡ true
has_power zero = refl
has_power (suc k) = has_half (2 ^ suc k) k ∙ rw (half_power k) (has_power k)

pub has_other : (a b : ℕ) → a ≢ b → has (2 ^ a) b ≡ false
has_other zero zero d = absurd (d refl)
has_other zero (suc b) d = has_half 1 b ∙ has_zero b
has_other (suc a) zero d = let e : 2 ^ suc a / 1 % 2 ≡ 0 = omega arith in rw e
has_other (suc a) (suc b) d = has_half (2 ^ suc a) b ∙ rw (half_power a) (has_other a b (omega arith))

-- the word of all junctions
pub has_full : (n k : ℕ) → k < n → has (2 ^ n - 1) k ≡ true
has_full n k l =
    let both : (has (2 ^ k) k && has (2 ^ n - 1) k) ≡ true =
    sym (has_and (2 ^ k) (2 ^ n - 1) k) ∙ ap (λ x. has x k) (and_mask (2 ^ k) n ∙ mod-eq_of_lt (pow_below k n l)) ∙ has_power k in
    (and_parts (has (2 ^ k) k) (has (2 ^ n - 1) k) both).1

bit_same : (a b : ℕ) → eqb (a / 1 % 2) 1 ≡ eqb (b / 1 % 2) 1 → a % 2 ≡ b % 2
bit_same a b h = grind (arith, nat_tests)

-- a word of n junctions has no other
pub has_beyond : (n s k : ℕ) → s < 2 ^ n → n ≤ k → has s k ≡ false
has_beyond n s k l m =
    let less : s < 2 ^ k = omega (arith, l, pow_mono m) in
    rw (div-eq_of_lt less)

-- words with the same bits are equal
pub same_word : (n a b : ℕ) → a < 2 ^ n → b < 2 ^ n → ((k : ℕ) → k < n → has a k ≡ has b k) → a ≡ b
same_word zero a b l m h = omega arith
same_word (suc n) a b l m h =
    let low = bit_same a b (h 0 (omega arith)) in
    let high = same_word n (a / 2) (b / 2) (omega arith) (omega arith) (λ k d. sym (has_half a k) ∙ h (suc k) (omega arith) ∙ has_half b k) in
    omega arith

pub and_fold_true : (k i : ℕ) (ss : List ℕ) → has i k ≡ true → AllByRecursion (λ s. has s k ≡ true) ss → has (fold bit_and i ss) k ≡ true
and_fold_true k i [] e h = e
and_fold_true k i (s ∷ ss) e h = and_fold_true k (bit_and i s) ss (has_and i s k ∙ and_from _ _ e h.0) h.1

pub and_fold_parts : (k i : ℕ) (ss : List ℕ) → has (fold bit_and i ss) k ≡ true → (has i k ≡ true) × AllByRecursion (λ s. has s k ≡ true) ss
and_fold_parts k i [] e = (e, tt)
and_fold_parts k i (s ∷ ss) e =
    let rest = and_fold_parts k (bit_and i s) ss e in
    let both = and_parts (has i k) (has s k) (sym (has_and i s k) ∙ rest.0) in
    (both.0, (both.1, rest.1))

pub or_fold_parts : (k i : ℕ) (ss : List ℕ) → has (fold bit_or i ss) k ≡ false → (has i k ≡ false) × AllByRecursion (λ s. has s k ≡ false) ss
or_fold_parts k i [] e = (e, tt)
or_fold_parts k i (s ∷ ss) e =
    let rest = or_fold_parts k (bit_or i s) ss e in
    let both = or_parts (has i k) (has s k) (sym (has_or i s k) ∙ rest.0) in
    (both.0, (both.1, rest.1))

pub and_fold_le : (i : ℕ) (ss : List ℕ) → fold bit_and i ss ≤ i
and_fold_le i [] = omega arith
and_fold_le i (s ∷ ss) = omega (arith, and_fold_le (bit_and i s) ss, and_le_l i s)

pub or_fold_lt : (n i : ℕ) (ss : List ℕ) → i < 2 ^ n → AllByRecursion (λ s. s < 2 ^ n) ss → fold bit_or i ss < 2 ^ n
or_fold_lt n i [] l h = l
or_fold_lt n i (s ∷ ss) l h = or_fold_lt n (bit_or i s) ss (or_lt n i s l h.0) h.1

pub or_fold_some : (P : ℕ → Type 0) (k i : ℕ) (ss : List ℕ) → has (fold bit_or i ss) k ≡ true → AllByRecursion P ss → (has i k ≡ true) ⊎ ((s : ℕ) × P s × (has s k ≡ true))
or_fold_some P k i [] e h = inl e
or_fold_some P k i (s ∷ ss) e h = elim (or_fold_some P k (bit_or i s) ss e h.1) [
  | inl b ↦ elim (or_cases (has i k) (has s k) (sym (has_or i s k) ∙ b)) [ inl x ↦ inl x | inr y ↦ inr (s, h.0, y) ]
  | inr r ↦ inr r
]

-- two tests that pass alike are equal
pub same_test : (a b : Bool) → (a ≡ true → b ≡ true) → (b ≡ true → a ≡ true) → a ≡ b
same_test true b f g = sym (f refl)
same_test false true f g = g refl
same_test false false f g = refl

-- a junction more makes a larger word
pub or_more : (s k : ℕ) → has s k ≡ false → s < bit_or s (2 ^ k)
or_more s k e = elim (cases_eq s (bit_or s (2 ^ k))) [
  | inl q ↦ absurd (both_ways (has s k) e (ap (λ x. has x k) q ∙ has_or s (2 ^ k) k ∙ or_right _ _ (has_power k)))
  | inr d ↦ omega (arith, or_add_and s (2 ^ k), and_le_r s (2 ^ k))
]

or_false : (a : Bool) → (a || false) ≡ a
or_false true = refl
or_false false = refl

-- the word of the junctions that pass a test
pub word_of : (n : ℕ) (test : ℕ → Bool) → (s : ℕ) × (s < 2 ^ n) × ((k : ℕ) → k < n → has s k ≡ test k)
word_of zero test = (0, omega arith, λ k l. absurd (omega arith))
word_of (suc n) test =
    let r = word_of n test in
    elim (cases_Bool (test n)) [
      | inl q ↦ (
        bit_or r.0 (2 ^ n),
        or_lt (suc n) r.0 (2 ^ n) (omega (arith, r.1)) (pow_below n (suc n) (omega arith)),
        λ k l. has_or r.0 (2 ^ n) k ∙ elim (cases_eq k n) [
          | inl e ↦ rw e (or_right _ _ (has_power n) ∙ sym q)
          | inr d ↦ rw (has_other n k (λ e. d (sym e))) (or_false _ ∙ r.2 k (omega arith))
        ],
      )
      | inr q ↦ (
        r.0,
        omega (arith, r.1),
        λ k l. elim (cases_eq k n) [
          | inl e ↦ rw e (has_beyond n r.0 n r.1 (omega arith) ∙ sym q)
          | inr d ↦ r.2 k (omega arith)
        ],
      )
    ]
