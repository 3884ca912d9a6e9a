-- Lines of one kind, one after the other, are read as they are written.
use Rattle.std.proofs.Common.{◌≡◌, ℕ, zero, suc, ◌+◌, List, [], ◌∷◌, ◌++◌, length, Ok, Result, sym, refl, ap, ◌∙◌, append_assoc}
use Rattle.std.specs.List.{flat_map, AllByRecursion}
use Rattle.std.proofs.lemmas.List.{append-nil}
use Rattle.formats.specs.declared.refusal.Refusal.{Refusal}
use Rattle.formats.specs.Lines.{after_line}
use Rattle.formats.specs.Sheets.{lines_in}
use Rattle.formats.proofs.Numbers.{and_ok}
use Rattle.texts.proofs.LineTexts.{Feedless, line_then, line_after, and_split, ok_both}

abbrev lines_of : {A : Type 0} → (A → List ℕ) → List A → List ℕ
lines_of columns xs = flat_map (λ x. columns x ++ 10 ∷ []) xs

module _ {A : Type 0} (next : ℕ → List ℕ → Result A Refusal) (columns : A → List ℕ) (P : A → Type 0) (feedless : (x : A) → P x → Feedless (columns x)) (next_written : (x : A) (i : ℕ) (more : List ℕ) → P x → next i (columns x ++ 10 ∷ more) ≡ Ok x) where
  pub lines_written : (xs ys : List A) (i : ℕ) (more : List ℕ) → AllByRecursion P xs → lines_in next (length xs) i (lines_of columns xs ++ more) ys ≡ Ok (ys ++ xs, more)
  lines_written [] ys i more h = ap (λ (x : List A). Ok (x, more)) (sym (append-nil ys))
  lines_written (x ∷ xs) ys i more (h, hs) =
      let rest = lines_of columns xs ++ more in
      let bs = columns x ++ 10 ∷ rest in
      let then : A → Result (List A × List ℕ) Refusal = λ y. lines_in next (length xs) (i + 1) (after_line bs) (ys ++ y ∷ []) in
      ap (λ (b : List ℕ). lines_in next (suc (length xs)) i b ys) (line_then (columns x) (lines_of columns xs) more)
      ∙ and_ok (next i bs) x then (sym (next_written x i rest h))
      ∙ ap (λ (b : List ℕ). lines_in next (length xs) (i + 1) b (ys ++ x ∷ [])) (line_after (columns x) rest (feedless x h))
      ∙ lines_written xs (ys ++ x ∷ []) (i + 1) more hs
      ∙ ap (λ (z : List A). Ok (z, more)) (append_assoc ys (x ∷ []) xs)

-- k lines that were read, after the items xs
pub record LinesRead {A : Type 0} (columns : A → List ℕ) (P : A → Type 0) (k : ℕ) (bs : List ℕ) (xs ys : List A) (rest : List ℕ) : Type 0 where
  pub new : List A
  pub all : ys ≡ xs ++ new
  pub counted : length new ≡ k
  pub is : bs ≡ lines_of columns new ++ rest
  pub sound : AllByRecursion P new

module _ {A : Type 0} (next : ℕ → List ℕ → Result A Refusal) (columns : A → List ℕ) (P : A → Type 0) (next_read : (i : ℕ) (bs : List ℕ) (x : A) → next i bs ≡ Ok x → (bs ≡ columns x ++ 10 ∷ after_line bs) × P x) where
  pub lines_read : (k i : ℕ) (bs : List ℕ) (xs ys : List A) (rest : List ℕ) → lines_in next k i bs xs ≡ Ok (ys, rest) → LinesRead columns P k bs xs ys rest
  lines_read zero i bs xs ys rest e =
      let f = ok_both xs ys bs rest e in
      record { new = []; all = sym f.0 ∙ sym (append-nil xs); counted = refl; is = f.1; sound = tt }
  lines_read (suc k) i bs xs ys rest e =
      let s = and_split (next i bs) _ (ys, rest) e in
      let x = s.0 in
      let n = next_read i bs x s.1.0 in
      let r = lines_read k (i + 1) (after_line bs) (xs ++ x ∷ []) ys rest s.1.1 in
      record {
        new = x ∷ r.new;
        all = r.all ∙ append_assoc xs (x ∷ []) r.new;
        counted = ap suc r.counted;
        is = n.0 ∙ (λ z. columns x ++ 10 ∷ r.is z) ∙ sym (line_then (columns x) (lines_of columns r.new) rest);
        sound = (n.1, r.sound);
      }
