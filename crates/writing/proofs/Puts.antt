-- Writing over a space, piece by piece.
use Rattle.std.proofs.Common.{◌≡◌, ℕ, ◌+◌, ◌-◌, ◌<◌, ◌≤◌, List, [], ◌∷◌, ◌++◌, length, get_or, take, drop, set, sym, ap, ◌∙◌, append_assoc, arith, length-append}
use borrow.Rule.Slice.PartMut.{put_mid}
use Rattle.std.proofs.lemmas.List.{take_at, drop_at, take-append-drop, length-take-le, drop-drop, drop_more, set-append_right}
use Rattle.formats.specs.Spaces.{put_at}

module _ (s : List ℕ) (at : ℕ) (inside : at ≤ length s) where
  pub put_none : put_at at [] s ≡ s
  unfolding put_at
  put_none = ap (λ (n : ℕ). take at s ++ drop n s) (let e : at + 0 ≡ at = omega arith in e) ∙ take-append-drop at s

  front : (xs : List ℕ) → length (take at s ++ xs) ≡ at + length xs
  front xs = length-append (take at s) xs ∙ ap (λ (n : ℕ). n + length xs) (length-take-le at s inside)

  split : (xs : List ℕ) → put_at at xs s ≡ (take at s ++ xs) ++ drop (at + length xs) s
  unfolding put_at
  split xs = sym (append_assoc (take at s) xs (drop (at + length xs) s))

  -- one piece behind the other
  pub put_then : (xs ys : List ℕ) (next : ℕ) → next ≡ at + length xs → put_at next ys (put_at at xs s) ≡ put_at at (xs ++ ys) s
  unfolding put_at
  put_then xs ys next e =
      let n : length (take at s ++ xs) ≡ next = front xs ∙ sym e in
      let a : take next (put_at at xs s) ≡ take at s ++ xs = ap (take next) (split xs) ∙ take_at (take at s ++ xs) (drop (at + length xs) s) next n in
      let b : drop (next + length ys) (put_at at xs s) ≡ drop (at + length (xs ++ ys)) s =
      sym (drop-drop (length ys) next (put_at at xs s)) ∙ ap (λ (l : List ℕ). drop (length ys) (drop next l)) (split xs) ∙ ap (drop (length ys)) (drop_at (take at s ++ xs) (drop (at + length xs) s) next n)
      ∙ drop-drop (length ys) (at + length xs) s ∙ ap (λ (m : ℕ). drop m s) (let q : at + length xs + length ys ≡ at + length (xs ++ ys) = omega (arith, length-append xs ys) in q) in
      (λ i. a i ++ (ys ++ b i)) ∙ append_assoc (take at s) xs (ys ++ drop (at + length (xs ++ ys)) s)
      ∙ ap (λ (l : List ℕ). take at s ++ l) (sym (append_assoc xs ys (drop (at + length (xs ++ ys)) s)))

  -- one byte more
  pub put_more : (xs : List ℕ) (y next : ℕ) → next ≡ at + length xs → next < length s → set (put_at at xs s) next y ≡ put_at at (xs ++ y ∷ []) s
  put_more xs y next e h =
      let n : length (take at s ++ xs) ≡ next = front xs ∙ sym e in
      let one : drop (at + length xs) s ≡ get_or s next 0 ∷ drop (next + 1) s = ap (λ (m : ℕ). drop m s) (sym e) ∙ drop_more s next 0 h in
      let zero_is : next - next ≡ 0 = omega arith in
      ap (λ (l : List ℕ). set l next y) (split xs)
      ∙ set-append_right (take at s ++ xs) (drop (at + length xs) s) next next y n (omega arith)
      ∙ ap (λ (m : ℕ). (take at s ++ xs) ++ set (drop (at + length xs) s) m y) zero_is
      ∙ ap (λ (l : List ℕ). (take at s ++ xs) ++ set l 0 y) one
      ∙ sym (append_assoc (take at s ++ xs) (y ∷ []) (drop (next + 1) s))
      ∙ ap (λ (l : List ℕ). l ++ drop (next + 1) s) (append_assoc (take at s) xs (y ∷ []))
      ∙ ap (λ (m : ℕ). (take at s ++ (xs ++ y ∷ [])) ++ drop m s) (let q : next + 1 ≡ at + length (xs ++ y ∷ []) = omega (arith, length-append xs (y ∷ [])) in q)
      ∙ sym (split (xs ++ y ∷ []))

-- the code's own way to write a part
pub put_part : (s bs ys : List ℕ) (at k : ℕ) → k ≡ length bs → ys ≡ bs → put_mid at k s ys ≡ put_at at bs s
unfolding put_at
put_part s bs ys at k e f =
    (λ i. take at s ++ (f i ++ drop (e i) (drop at s))) ∙ ap (λ (l : List ℕ). take at s ++ (bs ++ l)) (drop-drop (length bs) at s)

-- and to write the front
pub put_front : (s bs ys : List ℕ) (n : ℕ) → n ≡ length bs → ys ≡ bs → ys ++ drop n s ≡ put_at 0 bs s
unfolding put_at
put_front s bs ys n e f = let behind : n ≡ 0 + length bs = omega arith in λ i. f i ++ drop (behind i) s
