-- A line and its line feed, written and read.
use Rattle.std.proofs.Common.{◌≡◌, ℕ, zero, suc, ◌+◌, ◌*◌, ◌/◌, ◌%◌, ◌<◌, ◌≤◌, Bool, true, false, cond, ◌&&◌, eqb, leb, List, [], ◌∷◌, ◌++◌, length, get_or, take, drop, Some, None, Ok, Err, Option, Result, sym, refl, ap, ◌∙◌, inl, inr, append_assoc, arith, length-append}
use Rattle.std.specs.List.{prefix_len, AllByRecursion}
use Rattle.std.proofs.lemmas.Bool.Decides.{nat_tests, eqb_tells}
use Rattle.std.proofs.ByRecursion.{All-append}
use Rattle.std.proofs.lemmas.List.{take_at, drop_at, length-take-le, take-append-drop, length-drop, drop-drop, drop_more}
use Rattle.formats.specs.declared.refusal.Refusal.{Refusal}
use Rattle.formats.specs.declared.refusal.Refusal.TheVariants.{BadLine, WrongKind, OutOfRange}
use Rattle.formats.specs.Fields.{number_in, digit_or_blank, padded, written}
use Rattle.formats.specs.Lines.{in_line, ended, first_line, after_line}
use Rattle.formats.specs.Sheets.{and_then, of_kind, due, ranged, number_at}
use Rattle.formats.proofs.Numbers.{inside}
use Rattle.texts.proofs.ReadBack.{read_back}
use Rattle.texts.proofs.Spelled.{spelled}

-- no byte is a line feed
abbrev pub Feedless : List ℕ → Type 0
Feedless bs = AllByRecursion (λ (b : ℕ). b ≡ 10 → ⊥) bs

pub feedless_then : (xs ys : List ℕ) → Feedless xs → Feedless ys → Feedless (xs ++ ys)
feedless_then xs ys p q = All-append (λ (b : ℕ). b ≡ 10 → ⊥) xs ys p q

-- of bytes that are known, by a test
abbrev lacks_feed : List ℕ → Bool
lacks_feed [] = true
lacks_feed (b ∷ bs) = cond (in_line b) (lacks_feed bs) false

kept_on : (x y : Bool) → cond x y false ≡ true → (x ≡ true) × (y ≡ true)
kept_on true y e = (refl, e)
kept_on false y e = absurd cc

pub feedless : (bs : List ℕ) → lacks_feed bs ≡ true → Feedless bs
feedless [] e = tt
feedless (b ∷ bs) e =
    let k = kept_on (in_line b) (lacks_feed bs) e in
    let p : in_line b ≡ true = k.0 in
    ((λ q. absurd (grind (arith, nat_tests))), feedless bs k.1)

padded_feedless : (w n : ℕ) → Feedless (padded w n)
padded_feedless zero n = tt
padded_feedless (suc w) n = feedless_then (padded w (n / 10)) (digit_or_blank n ∷ []) (padded_feedless w (n / 10)) ((λ e. absurd (grind (arith, nat_tests))), tt)

pub written_feedless : (w n : ℕ) → Feedless (written w n)
unfolding written
written_feedless zero n = tt
written_feedless (suc w) n = feedless_then (padded w (n / 10)) ((48 + n % 10) ∷ []) (padded_feedless w (n / 10)) ((λ e. omega arith), tt)

-- a line, its line feed, and what follows
pub line_then : (l xs ys : List ℕ) → ((l ++ 10 ∷ []) ++ xs) ++ ys ≡ l ++ 10 ∷ (xs ++ ys)
line_then l xs ys = append_assoc (l ++ 10 ∷ []) xs ys ∙ append_assoc l (10 ∷ []) (xs ++ ys)

leading_line : (l more : List ℕ) → Feedless l → prefix_len in_line (l ++ 10 ∷ more) ≡ length l
leading_line [] more h = refl
leading_line (b ∷ l) more (n, h) =
    let t : in_line b ≡ true = grind (arith, nat_tests) in
    ap (λ (x : Bool). cond {A = ℕ} x (1 + prefix_len in_line (l ++ 10 ∷ more)) 0) t ∙ omega (arith, leading_line l more h)

module _ (l more : List ℕ) (h : Feedless l) where
  pub line_first : first_line (l ++ 10 ∷ more) ≡ l
  line_first = take_at l (10 ∷ more) (prefix_len in_line (l ++ 10 ∷ more)) (sym (leading_line l more h))

  pub line_after : after_line (l ++ 10 ∷ more) ≡ more
  line_after =
      let e : length (l ++ 10 ∷ []) ≡ prefix_len in_line (l ++ 10 ∷ more) + 1 = omega (arith, length-append l (10 ∷ []), leading_line l more h) in
      ap (drop (prefix_len in_line (l ++ 10 ∷ more) + 1)) (sym (append_assoc l (10 ∷ []) more)) ∙ drop_at (l ++ 10 ∷ []) more (prefix_len in_line (l ++ 10 ∷ more) + 1) e

  line_ended : ended (l ++ 10 ∷ more) ≡ true
  line_ended =
      let e = leading_line l more h in
      let k = length-append l (10 ∷ more) in
      grind (arith, nat_tests)

  -- the line that is due
  pub due_written : (kind : List ℕ) (columns i : ℕ) → length l ≡ columns → of_kind kind l ≡ true → due kind columns i (l ++ 10 ∷ more) ≡ Ok l
  due_written kind columns i n k =
      let bs = l ++ 10 ∷ more in
      let f = line_first in
      let a : length (first_line bs) ≡ columns = ap length f ∙ n in
      let b : eqb (length (first_line bs)) columns ≡ true = grind (arith, nat_tests) in
      let c : of_kind kind (first_line bs) ≡ true = ap (of_kind kind) f ∙ k in
      let r : List ℕ → Result (List ℕ) Refusal = λ x. Ok x in
      ap (λ (x : Bool). cond {A = Result (List ℕ) Refusal} (x && eqb (length (first_line bs)) columns) (cond (of_kind kind (first_line bs)) (Ok (first_line bs)) (Err (WrongKind i))) (Err (BadLine i))) line_ended
      ∙ ap (λ (x : Bool). cond {A = Result (List ℕ) Refusal} x (cond (of_kind kind (first_line bs)) (Ok (first_line bs)) (Err (WrongKind i))) (Err (BadLine i))) b
      ∙ ap (λ (x : Bool). cond {A = Result (List ℕ) Refusal} x (Ok (first_line bs)) (Err (WrongKind i))) c
      ∙ ap r f

feed_at : (bs : List ℕ) → prefix_len in_line bs < length bs → get_or bs (prefix_len in_line bs) 0 ≡ 10
feed_at [] h = absurd (omega arith)
feed_at (b ∷ bs) h =
    elim (eqb_tells b 10) [
      | inl q ↦
          let t : in_line b ≡ false = grind (arith, nat_tests) in
          let e : prefix_len in_line (b ∷ bs) ≡ 0 = ap (λ (x : Bool). cond {A = ℕ} x (1 + prefix_len in_line bs) 0) t in
          ap (λ (n : ℕ). get_or (b ∷ bs) n 0) e ∙ q.1
      | inr q ↦
          let t : in_line b ≡ true = grind (arith, nat_tests) in
          let e : prefix_len in_line (b ∷ bs) ≡ 1 + prefix_len in_line bs = ap (λ (x : Bool). cond {A = ℕ} x (1 + prefix_len in_line bs) 0) t in
          let f : prefix_len in_line (b ∷ bs) ≡ suc (prefix_len in_line bs) = omega arith in
          ap (λ (n : ℕ). get_or (b ∷ bs) n 0) f ∙ feed_at bs (omega arith)
    ]

-- the first line, its line feed, and the rest
line_split : (bs : List ℕ) → ended bs ≡ true → bs ≡ first_line bs ++ 10 ∷ after_line bs
line_split bs e =
    let n = prefix_len in_line bs in
    let h : prefix_len in_line bs < length bs = grind (arith, nat_tests) in
    sym (take-append-drop n bs) ∙ ap (λ (l : List ℕ). take n bs ++ l) (drop_more bs n 0 h) ∙ ap (λ (b : ℕ). take n bs ++ b ∷ drop (n + 1) bs) (feed_at bs h)

-- a line that was read as due
pub record Due (kind : List ℕ) (columns : ℕ) (bs l : List ℕ) : Type 0 where
  pub line : first_line bs ≡ l
  pub is : bs ≡ l ++ 10 ∷ after_line bs
  pub long : length l ≡ columns
  pub kinded : of_kind kind l ≡ true

pub tests : (x y z : Bool) (i : ℕ) (k l : List ℕ) → cond {A = Result (List ℕ) Refusal} (x && y) (cond z (Ok k) (Err (WrongKind i))) (Err (BadLine i)) ≡ Ok l → (x ≡ true) × (y ≡ true) × (z ≡ true) × (k ≡ l)
tests true true true i k l e = (refl, refl, refl, cc)
tests true true false i k l e = absurd cc
tests true false z i k l e = absurd cc
tests false y z i k l e = absurd cc

pub due_read : (kind : List ℕ) (columns i : ℕ) (bs l : List ℕ) → due kind columns i bs ≡ Ok l → Due kind columns bs l
due_read kind columns i bs l e =
    let t = tests (ended bs) (eqb (length (first_line bs)) columns) (of_kind kind (first_line bs)) i (first_line bs) l e in
    let f : first_line bs ≡ l = t.3 in
    let q : eqb (length (first_line bs)) columns ≡ true = t.1 in
    let n : length (first_line bs) ≡ columns = grind (arith, nat_tests) in
    record { line = f; is = line_split bs t.0 ∙ ap (λ (x : List ℕ). x ++ 10 ∷ after_line bs) f; long = ap length (sym f) ∙ n; kinded = ap (of_kind kind) (sym f) ∙ t.2 }

pub kind_read : (a b c d : ℕ) (l : List ℕ) → 4 ≤ length l → of_kind (a ∷ b ∷ c ∷ d ∷ []) l ≡ true → take 4 l ≡ a ∷ b ∷ c ∷ d ∷ []
kind_read a b c d [] h e = absurd (omega arith)
kind_read a b c d (w ∷ []) h e = absurd (omega arith)
kind_read a b c d (w ∷ x ∷ []) h e = absurd (omega arith)
kind_read a b c d (w ∷ x ∷ y ∷ []) h e = absurd (omega arith)
kind_read a b c d (w ∷ x ∷ y ∷ z ∷ l) h e =
    let p : w ≡ a = grind (arith, nat_tests) in
    let q : x ≡ b = grind (arith, nat_tests) in
    let r : y ≡ c = grind (arith, nat_tests) in
    let s : z ≡ d = grind (arith, nat_tests) in
    λ i. p i ∷ q i ∷ r i ∷ s i ∷ []

-- where nothing was missed, something was read first
pub and_split : {A B : Type 0} (r : Result A Refusal) (f : A → Result B Refusal) (y : B) → and_then r f ≡ Ok y → (x : A) × ((r ≡ Ok x) × (f x ≡ Ok y))
and_split (Ok x) f y e = (x, (refl, e))
and_split (Err d) f y e = absurd cc

pub ok_both : {A B : Type 0} (a c : A) (b d : B) → ◌≡◌ {A = Result (A × B) Refusal} (Ok (a, b)) (Ok (c, d)) → (a ≡ c) × (b ≡ d)
ok_both {A} {B} a c b d e =
    let p : ◌≡◌ {A = A × B} (a, b) (c, d) = cc in
    (ap (λ (x : A × B). x.0) p, ap (λ (x : A × B). x.1) p)

-- a number in its field
pub number_written : (i k least most : ℕ) (bs : List ℕ) (v : ℕ) → take 5 (drop (4 + 5 * k) bs) ≡ written 5 v → least ≤ v → v ≤ most → v ≤ 60000 → Ok v ≡ number_at i k least most bs
number_written i k least most bs v e h l b =
    inside bs k i least most v (sym (ap number_in e ∙ read_back 5 v (omega arith) (omega arith) (omega arith))) h l

-- and read
abbrev pub Number : ℕ → ℕ → ℕ → List ℕ → ℕ → Type 0
Number k least most bs v = (take 5 (drop (4 + 5 * k) bs) ≡ written 5 v) × (least ≤ v) × (v ≤ most)

pub ranged_read : (i least most : ℕ) (o : Option ℕ) (v : ℕ) → ranged i least most o ≡ Ok v → (o ≡ Some v) × (least ≤ v) × (v ≤ most)
ranged_read i least most None v e = absurd cc
ranged_read i least most (Some n) v e = go (leb least n && leb n most) refl e
  where
    go : (b : Bool) → (leb least n && leb n most) ≡ b → cond {A = Result ℕ Refusal} b (Ok n) (Err (OutOfRange i)) ≡ Ok v → (Some n ≡ Some v) × (least ≤ v) × (v ≤ most)
    go true t f =
        let q : n ≡ v = cc in
        let a : least ≤ n = grind (arith, nat_tests) in
        let c : n ≤ most = grind (arith, nat_tests) in
        (ap (λ (x : ℕ). Some x) q, omega arith, omega arith)
    go false t f = absurd cc

pub number_read : (i k least most : ℕ) (bs : List ℕ) (v : ℕ) → 4 + 5 * k + 5 ≤ length bs → number_at i k least most bs ≡ Ok v → Number k least most bs v
number_read i k least most bs v h e =
    let c = take 5 (drop (4 + 5 * k) bs) in
    let r = ranged_read i least most (number_in c) v e in
    let n : length c ≡ 5 = length-take-le 5 (drop (4 + 5 * k) bs) (simp length-drop (omega arith)) in
    (spelled c v r.0 ∙ ap (λ (w : ℕ). written w v) n, r.1, r.2)

-- the columns of a line
pub field_first : (a b : List ℕ) → length a ≡ 5 → take 5 (a ++ b) ≡ a
field_first a b h = take_at a b 5 h

pub field_past : (n : ℕ) (a b : List ℕ) → length a ≡ 5 → drop (5 + n) (a ++ b) ≡ drop n b
field_past n a b h = sym (drop-drop n 5 (a ++ b)) ∙ ap (drop n) (drop_at a b 5 h)

field_split : (n : ℕ) (l : List ℕ) → drop n l ≡ take 5 (drop n l) ++ drop (n + 5) l
field_split n l = sym (take-append-drop 5 (drop n l)) ∙ ap (λ (x : List ℕ). take 5 (drop n l) ++ x) (drop-drop 5 n l)

pub fields_split : (l : List ℕ) → l ≡ take 4 l ++ (take 5 (drop 4 l) ++ (take 5 (drop 9 l) ++ (take 5 (drop 14 l) ++ drop 19 l)))
fields_split l =
    sym (take-append-drop 4 l) ∙ ap (λ (x : List ℕ). take 4 l ++ x) (field_split 4 l ∙ ap (λ (x : List ℕ). take 5 (drop 4 l) ++ x) (field_split 9 l ∙ ap (λ (x : List ℕ). take 5 (drop 9 l) ++ x) (field_split 14 l)))

pub one_field_split : (l : List ℕ) → l ≡ take 4 l ++ (take 5 (drop 4 l) ++ drop 9 l)
one_field_split l = sym (take-append-drop 4 l) ∙ ap (λ (x : List ℕ). take 4 l ++ x) (field_split 4 l)
