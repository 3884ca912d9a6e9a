-- Laws of `total`, and of `only`.
use Rattle.std.proofs.Common.{◌≡◌, ℕ, zero, suc, ◌+◌, ◌<◌, ◌≤◌, Bool, true, false, eqb, ◌≢◌, List, [], ◌∷◌, length, get_or, sum_by, sym, refl, ◌∙◌, inl, inr, arith}
use Rattle.std.proofs.lemmas.List.Sums.{sum_by-cons}
use Rattle.std.proofs.lemmas.Bool.{cases_eq, eq-eqb, ne_eqb, false≢true}
use Rattle.network.specs.Sums.{total, only}

-- pointwise
pub total_eq : (n : ℕ) (g h : ℕ → ℕ) → ((k : ℕ) → k < n → g k ≡ h k) → total n g ≡ total n h
total_eq zero g h e = refl
total_eq (suc n) g h e = omega (arith, total_eq n g h (λ k l. e k (omega arith)), e n (omega arith))

pub total_le : (n : ℕ) (g h : ℕ → ℕ) → ((k : ℕ) → k < n → g k ≤ h k) → total n g ≤ total n h
total_le zero g h e = omega arith
total_le (suc n) g h e = omega (arith, total_le n g h (λ k l. e k (omega arith)), e n (omega arith))

pub total_add : (n : ℕ) (g h : ℕ → ℕ) → total n (λ k. g k + h k) ≡ total n g + total n h
total_add zero g h = refl
total_add (suc n) g h = omega (arith, total_add n g h)

pub total_zero : (n : ℕ) (h : ℕ → ℕ) → ((k : ℕ) → k < n → h k ≡ 0) → total n h ≡ 0
total_zero zero h e = refl
total_zero (suc n) h e = omega (arith, total_zero n h (λ k l. e k (omega arith)), e n (omega arith))

-- equal totals of what is pointwise at most: equal at each place
pub total_tight : (n : ℕ) (g h : ℕ → ℕ) → ((k : ℕ) → k < n → g k ≤ h k) → total n h ≤ total n g → (k : ℕ) → k < n → g k ≡ h k
total_tight zero g h e l k b = absurd (omega arith)
total_tight (suc n) g h e l k b =
    let below : total n g ≤ total n h = total_le n g h (λ i c. e i (omega arith)) in
    let last : g n ≤ h n = e n (omega arith) in
    let rest : k < n → g k ≡ h k = λ c. total_tight n g h (λ i c'. e i (omega arith)) (omega arith) k c in
    elim (cases_eq k n) [ inl q ↦ rw q (omega arith) | inr q ↦ rest (omega arith) ]

-- two that differ at one place
pub total_but : (n : ℕ) (g h : ℕ → ℕ) (i : ℕ) → i < n → ((k : ℕ) → k < n → k ≢ i → g k ≡ h k) → total n g + h i ≡ total n h + g i
total_but zero g h i b e = absurd (omega arith)
total_but (suc n) g h i b e =
    let rest : i < n → total n g + h i ≡ total n h + g i = λ c. total_but n g h i c (λ k l d. e k (omega arith) d) in
    elim (cases_eq i n) [
      | inl q ↦ rw q (omega (arith, total_eq n g h (λ k l. e k (omega arith) (omega arith))))
      | inr q ↦ omega (arith, rest (omega arith), e n (omega arith) (omega arith))
    ]

-- all but one place give nothing
pub total_one : (n : ℕ) (h : ℕ → ℕ) (i : ℕ) → i < n → ((k : ℕ) → k < n → k ≢ i → h k ≡ 0) → total n h ≡ h i
total_one n h i b e = omega (arith, total_but n h (λ _. 0) i b e, total_zero n (λ _. 0) (λ _ _. refl))

pub only_zero : (b : Bool) → only b 0 ≡ 0
only_zero true = refl
only_zero false = refl

pub only_add : (b : Bool) (x y : ℕ) → only b (x + y) ≡ only b x + only b y
only_add true x y = refl
only_add false x y = refl

pub only_le : (b : Bool) (x y : ℕ) → x ≤ y → only b x ≤ only b y
only_le true x y h = h
only_le false x y h = omega arith

pub only_eq : (b : Bool) (x y : ℕ) → (b ≡ true → x ≡ y) → only b x ≡ only b y
only_eq true x y h = h refl
only_eq false x y h = refl

pub only_at : (b : Bool) (x y : ℕ) → b ≡ true → only b x ≡ only b y → x ≡ y
only_at true x y e h = h
only_at false x y e h = absurd (false≢true e)

-- a heap at i, seen through S
pub total_hit : (n : ℕ) (S : ℕ → Bool) (i x : ℕ) → i < n → total n (λ j. only (S j) (only (eqb i j) x)) ≡ only (S i) x
total_hit n S i x b =
    total_one n (λ j. only (S j) (only (eqb i j) x)) i b (λ k l d. rw (ne_eqb i k (λ e. d (sym e))) (only_zero (S k)))
    ∙ rw (eq-eqb i i refl)

-- heaps at a 0, a 1, .., seen through S
pub total_gather : (n m : ℕ) (S : ℕ → Bool) (a x : ℕ → ℕ) → ((k : ℕ) → k < m → a k < n) →
    total n (λ j. only (S j) (total m (λ k. only (eqb (a k) j) (x k)))) ≡ total m (λ k. only (S (a k)) (x k))
total_gather n zero S a x b = total_zero n _ (λ j l. only_zero (S j))
total_gather n (suc m) S a x b =
    total_eq n _ _ (λ j l. only_add (S j) (total m (λ k. only (eqb (a k) j) (x k))) (only (eqb (a m) j) (x m)))
    ∙ total_add n (λ j. only (S j) (total m (λ k. only (eqb (a k) j) (x k)))) (λ j. only (S j) (only (eqb (a m) j) (x m)))
    ∙ (rw (total_gather n m S a x (λ k l. b k (omega arith)), total_hit n S (a m) (x m) (b m (omega arith))))

pub total_front : (n : ℕ) (h : ℕ → ℕ) → total (suc n) h ≡ h 0 + total n (λ k. h (suc k))
total_front zero h = omega arith
total_front (suc n) h = omega (arith, total_front n h)

-- a sum over a list, by places
pub total_sumBy : {X : Type 0} (g : X → ℕ) (xs : List X) (d : X) → sum_by g xs ≡ total (length xs) (λ k. g (get_or xs k d))
total_sumBy g [] d = refl
total_sumBy g (x ∷ xs) d = omega (arith, sum_by-cons g x xs, total_sumBy g xs d, total_front (length xs) (λ k. g (get_or (x ∷ xs) k d)))
