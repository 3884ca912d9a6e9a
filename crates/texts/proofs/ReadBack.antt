-- A number that is written is read back.
use Rattle.std.proofs.Common.{◌≡◌, ℕ, zero, suc, ◌+◌, ◌/◌, ◌%◌, ◌^◌, ◌<◌, Bool, false, cond, eqb, List, [], ◌∷◌, ◌++◌, Some, Option, refl, ap, ◌∙◌, append_assoc, mod-lt, div-lt_iff_lt-mul, pow-suc, div-add-mod', arith}
use Rattle.std.proofs.lemmas.Bool.Decides.{nat_tests}
use Rattle.formats.specs.Fields.{digits_from, number_in, digit_or_blank, padded, written}
use Rattle.formats.proofs.Digits.{next, good, other}

-- what reading comes to once the places of u are read
abbrev seen : ℕ → List ℕ → Option ℕ
seen zero ys = number_in ys
seen (suc u) ys = digits_from (suc u) ys

tenth : (w u : ℕ) → u < 10 ^ suc w → u / 10 < 10 ^ w
tenth w u h = (div-lt_iff_lt-mul {k = 10} {x = u} {y = 10 ^ w} (omega arith)).1 (omega (arith, pow-suc 10 w))

-- u / 10 read, then the last place of u
shown : (u q : ℕ) (ys : List ℕ) → q ≡ u / 10 → (u ≡ 0 → ⊥) → u < 4294967296 → seen q ((48 + u % 10) ∷ ys) ≡ digits_from u ys
shown u zero ys e n k =
    let m = mod-lt u {m = 10} (omega arith) in
    let d = div-add-mod' u 10 in
    let s : 48 + u % 10 ≡ 48 + u = omega arith in
    let b : next 0 (48 + u % 10) ≡ u = omega arith in
    other (48 + u % 10) ys (λ x. omega arith) (λ x. omega arith) ∙ good 0 (48 + u % 10) ys (omega arith) (omega arith) (omega arith) ∙ ap (λ (x : ℕ). digits_from x ys) b
shown u (suc q) ys e n k =
    let m = mod-lt u {m = 10} (omega arith) in
    let d = div-add-mod' u 10 in
    let b : next (suc q) (48 + u % 10) ≡ u = omega arith in
    good (suc q) (48 + u % 10) ys (omega arith) (omega arith) (omega arith) ∙ ap (λ (x : ℕ). digits_from x ys) b

place : (u : ℕ) (ys : List ℕ) → u < 4294967296 → seen (u / 10) (digit_or_blank u ∷ ys) ≡ seen u ys
place zero ys k = refl
place (suc u) ys k =
    let z : eqb (suc u) 0 ≡ false = grind (arith, nat_tests) in
    ap (λ (x : Bool). seen (suc u / 10) (cond x 32 (48 + suc u % 10) ∷ ys)) z ∙ shown (suc u) (suc u / 10) ys refl (λ e. omega arith) k

places : (w u : ℕ) (ys : List ℕ) → u < 10 ^ w → u < 4294967296 → number_in (padded w u ++ ys) ≡ seen u ys
places zero u ys h k = ap (λ (n : ℕ). seen n ys) (let z : 0 ≡ u = omega arith in z)
places (suc w) u ys h k =
    ap number_in (append_assoc (padded w (u / 10)) (digit_or_blank u ∷ []) ys) ∙ places w (u / 10) (digit_or_blank u ∷ ys) (tenth w u h) (omega (arith, div-add-mod' u 10)) ∙ place u ys k

ending : (v : ℕ) → v < 4294967296 → seen (v / 10) ((48 + v % 10) ∷ []) ≡ Some v
ending zero k = refl
ending (suc v) k = shown (suc v) (suc v / 10) [] refl (λ e. omega arith) k

pub read_back : (w v : ℕ) → 0 < w → v < 10 ^ w → v < 4294967296 → number_in (written w v) ≡ Some v
unfolding written
read_back zero v p h k = absurd (omega arith)
read_back (suc w) v p h k = places w (v / 10) ((48 + v % 10) ∷ []) (tenth w v h) (omega (arith, div-add-mod' v 10)) ∙ ending v k
