-- A field that is read as a number is that number as it is written.
use Rattle.std.proofs.Common.{◌≡◌, ℕ, zero, suc, ◌+◌, ◌-◌, ◌*◌, ◌/◌, ◌%◌, ◌≤◌, Bool, true, false, cond, eqb, ltb, List, [], ◌∷◌, ◌++◌, length, Some, None, Option, sym, refl, ap, ◌∙◌, subst, inl, inr, append_assoc, mod-lt, div-add-mod', arith, length-append}
use Rattle.std.proofs.lemmas.Bool.Decides.{nat_tests, eqb_tells}
use Rattle.std.proofs.lemmas.List.{append-nil}
use Rattle.formats.specs.Fields.{digit, digits_from, lone_zero, number_in, digit_or_blank, padded, written}

abbrev next : ℕ → ℕ → ℕ
next n b = n * 10 + (b - 48)

shown : (u : ℕ) → (u ≡ 0 → ⊥) → digit_or_blank u ≡ 48 + u % 10
shown u h =
    let z : eqb u 0 ≡ false = grind (arith, nat_tests) in
    ap (λ (x : Bool). cond x 32 (48 + u % 10)) z

-- one place more
placed : (pre : List ℕ) (m u c : ℕ) → pre ≡ padded (length pre) m → u / 10 ≡ m → digit_or_blank u ≡ c → pre ++ c ∷ [] ≡ padded (length (pre ++ c ∷ [])) u
placed pre m u c p q d =
    let l : suc (length pre) ≡ length (pre ++ c ∷ []) = omega (arith, length-append pre (c ∷ [])) in
    let e : pre ++ c ∷ [] ≡ padded (length pre) (u / 10) ++ digit_or_blank u ∷ [] =
    ap (λ (x : List ℕ). x ++ c ∷ []) (p ∙ ap (padded (length pre)) (sym q)) ∙ ap (λ (x : ℕ). padded (length pre) (u / 10) ++ x ∷ []) (sym d) in
    e ∙ ap (λ (n : ℕ). padded n u) l

both : (x y : Bool) (r : Option ℕ) (n : ℕ) → cond x (cond y r None) None ≡ Some n → (x ≡ true) × (r ≡ Some n)
both true true r n e = (refl, e)
both true false r n e = absurd cc
both false y r n e = absurd cc

regroup : (pre : List ℕ) (b : ℕ) (bs : List ℕ) → (pre ++ b ∷ []) ++ bs ≡ pre ++ b ∷ bs
regroup pre b bs = append_assoc pre (b ∷ []) bs

-- what is known once one digit more is read
abbrev Read : List ℕ → ℕ → List ℕ → ℕ → Type 0
Read pre u bs n = (pre ≡ padded (length pre) u) × (u ≡ 0 → ⊥) × (digits_from u bs ≡ Some n)

-- the next digit, where it does not begin a number with a zero
digit_read : (b : ℕ) (bs pre : List ℕ) (m n : ℕ) → pre ≡ padded (length pre) m → (48 ≤ b → next m b ≡ 0 → ⊥) → digits_from m (b ∷ bs) ≡ Some n → Read (pre ++ b ∷ []) (next m b) bs n
digit_read b bs pre m n p h e =
    let u = next m b in
    let t = both (digit b) (ltb u 4294967296) (digits_from u bs) n e in
    let w : digit b ≡ true = t.0 in
    let r : 48 ≤ b = grind (arith, nat_tests) in
    let k : b ≤ 57 = grind (arith, nat_tests) in
    let f : next m b ≡ 0 → ⊥ = h r in
    let a = mod-lt u {m = 10} (omega arith) in
    let d = div-add-mod' u 10 in
    let g : 48 + u % 10 ≡ b = omega arith in
    (placed pre m u b p (omega arith) (shown u f ∙ g), f, t.1)

digits_spelled : (bs pre : List ℕ) (m n : ℕ) → Read pre m bs n → (pre ++ bs ≡ padded (length (pre ++ bs)) n) × (n ≡ 0 → ⊥)
digits_spelled [] pre m n (p, h, e) =
    let q : m ≡ n = cc in
    (append-nil pre ∙ p ∙ ap (λ (k : ℕ). padded (length pre) k) q ∙ ap (λ (l : List ℕ). padded (length l) n) (sym (append-nil pre)), λ z. h (omega arith))
digits_spelled (b ∷ bs) pre m n (p, h, e) =
    let s = digits_spelled bs (pre ++ b ∷ []) (next m b) n (digit_read b bs pre m n p (λ l z. h (omega arith)) e) in
    (subst (λ (l : List ℕ). l ≡ padded (length l) n) (regroup pre b bs) s.0, s.1)

-- a number other than 0 has no digit too many
nonzero : (w n : ℕ) → (n ≡ 0 → ⊥) → padded w n ≡ written w n
unfolding written
nonzero zero n h = refl
nonzero (suc w) n h = ap (λ (x : ℕ). padded w (n / 10) ++ x ∷ []) (shown n h)

zero_alone : (bs pre : List ℕ) (n : ℕ) → pre ≡ padded (length pre) 0 → lone_zero bs ≡ Some n → pre ++ 48 ∷ bs ≡ written (length (pre ++ 48 ∷ bs)) n
unfolding written
zero_alone [] pre n p e =
    let q : 0 ≡ n = cc in
    let l : suc (length pre) ≡ length (pre ++ 48 ∷ []) = omega (arith, length-append pre (48 ∷ [])) in
    ap (λ (x : List ℕ). x ++ 48 ∷ []) p ∙ ap (written (suc (length pre))) q ∙ ap (λ (k : ℕ). written k n) l
zero_alone (b ∷ bs) pre n p e = absurd cc

-- the blanks so far, and the rest of the field
rest_spelled : (bs pre : List ℕ) (n : ℕ) → pre ≡ padded (length pre) 0 → number_in bs ≡ Some n → pre ++ bs ≡ written (length (pre ++ bs)) n
rest_spelled [] pre n p e = absurd cc
rest_spelled (b ∷ bs) pre n p e =
    elim (eqb_tells b 32) [
      | inl q ↦ subst (λ (l : List ℕ). l ≡ written (length l) n) (regroup pre b bs)
          (rest_spelled bs (pre ++ b ∷ []) n (placed pre 0 0 b p refl (sym q.1)) (subst (λ (x : ℕ). number_in (x ∷ bs) ≡ Some n) q.1 e))
      | inr q ↦ elim (eqb_tells b 48) [
        | inl z ↦ subst (λ (x : ℕ). pre ++ x ∷ bs ≡ written (length (pre ++ x ∷ bs)) n) (sym z.1) (zero_alone bs pre n p (subst (λ (x : ℕ). number_in (x ∷ bs) ≡ Some n) z.1 e))
        | inr z ↦
            let f : digits_from 0 (b ∷ bs) ≡ Some n =
            sym (ap (λ (x : Bool). cond x (number_in bs) (cond (eqb b 48) (lone_zero bs) (digits_from 0 (b ∷ bs)))) q.0 ∙ ap (λ (x : Bool). cond x (lone_zero bs) (digits_from 0 (b ∷ bs))) z.0) ∙ e in
            let s = digits_spelled bs (pre ++ b ∷ []) (next 0 b) n (digit_read b bs pre 0 n p (λ l y. z.1 (omega arith)) f) in
            subst (λ (l : List ℕ). l ≡ written (length l) n) (regroup pre b bs) (s.0 ∙ nonzero (length ((pre ++ b ∷ []) ++ bs)) n s.1)
      ]
    ]

pub spelled : (bs : List ℕ) (n : ℕ) → number_in bs ≡ Some n → bs ≡ written (length bs) n
spelled bs n e = rest_spelled bs [] n refl e
