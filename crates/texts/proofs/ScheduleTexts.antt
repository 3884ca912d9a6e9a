-- Schedules are read as they are written.
use Rattle.std.proofs.Common.{◌≡◌, ℕ, zero, suc, ◌+◌, ◌≤◌, Bool, true, false, cond, ◌&&◌, eqb, ◌↔◌, List, [], ◌∷◌, ◌++◌, length, take, drop, is_some, Ok, Err, codes, Result, sym, refl, ap, ◌∙◌, subst, append_assoc, arith, length-append}
use Rattle.std.specs.List.{flat_map, AllByRecursion}
use Rattle.std.proofs.lemmas.Bool.Decides.{nat_tests}
use Rattle.std.proofs.lemmas.List.{append-nil, length-drop, nil_from_length}
use Rattle.formats.specs.declared.refusal.Refusal.{Refusal}
use Rattle.formats.specs.declared.refusal.Refusal.TheVariants.{WrongLetter, TrailingBytes}
use Rattle.formats.specs.Fields.{written}
use Rattle.texts.specs.Laws.{SoundSchedule, ScheduleLaws}
use Rattle.formats.specs.Letters.{setting_of, is_pattern}
use Rattle.formats.specs.Lines.{first_line, after_line}
use Rattle.formats.specs.Sheets.{and_then, of_kind, due, number_at}
use Rattle.formats.specs.Schedules.{Timed, SoundStep, step_in, next_step_in, steps_in, next_count_in, schedule_in}
use Rattle.formats.specs.Written.{count_columns, step_columns, step_line, schedule_of}
use Rattle.formats.proofs.Lengths.{length_written}
use Rattle.formats.proofs.Numbers.{and_ok}
use Rattle.texts.proofs.RepeatedLines.{lines_written, lines_read}
use Rattle.texts.proofs.LineTexts.{Feedless, feedless, feedless_then, written_feedless, line_after, due_written, due_read, kind_read, and_split, number_written, number_read, field_first, field_past, one_field_split}

-- the line with the number of steps
module _ (n : ℕ) where
  count_long : length (count_columns n) ≡ 9
  unfolding count_columns
  count_long = let e = length_written 5 n in omega arith

  count_kind : of_kind (codes "SCHD") (count_columns n) ≡ true
  unfolding count_columns
  count_kind = refl

  count_feedless : Feedless (count_columns n)
  unfolding count_columns
  count_feedless = feedless_then (codes "SCHD") (written 5 n) (feedless (codes "SCHD") refl) (written_feedless 5 n)

  next_count_written : (i : ℕ) (more : List ℕ) → 1 ≤ n → n ≤ 100 → next_count_in i (count_columns n ++ 10 ∷ more) ≡ Ok n
  unfolding count_columns
  next_count_written i more some few =
      let t : take 5 (written 5 n) ≡ written 5 n = ap (take 5) (sym (append-nil (written 5 n))) ∙ field_first (written 5 n) [] (length_written 5 n) in
      and_ok _ (count_columns n) _ (sym (due_written (count_columns n) more count_feedless (codes "SCHD") 9 i count_long count_kind))
      ∙ sym (number_written i 0 1 100 (count_columns n) n t some few (omega arith))

all_true : (x y : Bool) → (x && y) ≡ true → (x ≡ true) × (y ≡ true)
all_true true y e = (refl, e)
all_true false y e = absurd cc

-- a line feed is no letter of a pattern
pattern_feedless : (ls : List ℕ) → is_pattern ls ≡ true → Feedless ls
pattern_feedless [] e = tt
pattern_feedless (b ∷ ls) e =
    let k = all_true (is_some (setting_of b)) (is_pattern ls) e in
    ((λ q. absurd (let f : false ≡ true = subst (λ (x : ℕ). is_some (setting_of x) ≡ true) q k.0 in cc)), pattern_feedless ls k.1)

module _ (s : Timed) where
  step_kind : of_kind (codes "STEP") (step_columns s) ≡ true
  unfolding step_columns
  step_kind = refl

  module _ (pipes i : ℕ) (sound : SoundStep pipes s) where
    step_long : length (step_columns s) ≡ 9 + pipes
    unfolding step_columns
    step_long = omega (arith, length-append (written 5 s.minutes) s.letters, length_written 5 s.minutes, sound.long)

    step_feedless : Feedless (step_columns s)
    unfolding step_columns
    step_feedless =
        feedless_then (codes "STEP") (written 5 s.minutes ++ s.letters) (feedless (codes "STEP") refl)
        (feedless_then (written 5 s.minutes) s.letters (written_feedless 5 s.minutes) (pattern_feedless s.letters sound.patterned))

    step_written : step_in i (step_columns s) ≡ Ok s
    unfolding step_columns
    step_written =
        let l = step_columns s in
        let a = written 5 s.minutes in
        let la = length_written 5 s.minutes in
        let x = sound.some in
        let y = sound.few in
        let e₁ = number_written i 0 1 1440 l s.minutes (field_first a s.letters la) x y (omega arith) in
        let e₂ : drop 9 l ≡ s.letters = field_past 0 a s.letters la in
        and_ok _ s.minutes _ e₁
        ∙ ap (λ (x : List ℕ). cond {A = Result Timed Refusal} (is_pattern x) (Ok (record { minutes = s.minutes; letters = x })) (Err (WrongLetter i))) e₂
        ∙ ap (λ (t : Bool). cond {A = Result Timed Refusal} t (Ok s) (Err (WrongLetter i))) sound.patterned

    next_step_written : (more : List ℕ) → next_step_in pipes i (step_columns s ++ 10 ∷ more) ≡ Ok s
    next_step_written more = and_ok _ (step_columns s) _ (sym (due_written (step_columns s) more step_feedless (codes "STEP") (9 + pipes) i step_long step_kind)) ∙ step_written

steps_written : (ss : List Timed) (pipes i : ℕ) (more : List ℕ) → AllByRecursion (SoundStep pipes) ss → steps_in (length ss) pipes i (flat_map step_line ss ++ more) [] ≡ Ok (ss, more)
steps_written ss pipes i more h = lines_written (next_step_in pipes) step_columns (SoundStep pipes) (λ s q. step_feedless s pipes i q) (λ s j rest q. next_step_written s pipes j q rest) ss [] i more h

-- written, then read
pub schedule_written : (pipes i : ℕ) (ss : List Timed) → SoundSchedule pipes ss → schedule_in pipes i (schedule_of ss) ≡ Ok ss
unfolding schedule_of
schedule_written pipes i ss sound =
    let n = length ss in
    let rest = flat_map step_line ss in
    let bs = count_columns n ++ 10 ∷ rest in
    let done : List Timed × List ℕ → Result (List Timed) Refusal = λ r. cond (eqb (length r.1) 0) (Ok r.0) (Err (TrailingBytes (i + n + 1))) in
    ap (schedule_in pipes i) (append_assoc (count_columns n) (10 ∷ []) rest)
    ∙ and_ok (next_count_in i bs) n _ (sym (next_count_written n i rest sound.some sound.few))
    ∙ ap (λ (x : List ℕ). and_then (steps_in n pipes (i + 1) x []) done) (line_after (count_columns n) rest (count_feedless n) ∙ sym (append-nil rest))
    ∙ ap (λ r. and_then r done) (steps_written ss pipes (i + 1) [] sound.steps)

-- letters that were read
lettered : (t : Bool) (i : ℕ) (s u : Timed) → cond {A = Result Timed Refusal} t (Ok s) (Err (WrongLetter i)) ≡ Ok u → (t ≡ true) × (s ≡ u)
lettered true i s u e = (refl, cc)
lettered false i s u e = absurd cc

step_read : (pipes i : ℕ) (l : List ℕ) (s : Timed) → length l ≡ 9 + pipes → of_kind (codes "STEP") l ≡ true → step_in i l ≡ Ok s → (l ≡ step_columns s) × SoundStep pipes s
unfolding step_columns
step_read pipes i l s long kind e =
    let s₁ = and_split (number_at i 0 1 1440 l) _ s e in
    let n₁ = number_read i 0 1 1440 l s₁.0 (omega arith) s₁.1.0 in
    let u : Timed = record { minutes = s₁.0; letters = drop 9 l } in
    let r = lettered (is_pattern (drop 9 l)) i u s s₁.1.1 in
    let k = kind_read 83 84 69 80 l (omega arith) kind in
    let d = length-drop 9 l in
    let is : l ≡ step_columns u = one_field_split l ∙ (λ x. k x ++ (n₁.0 x ++ drop 9 l)) in
    let sound : SoundStep pipes u = record { some = n₁.1; few = n₁.2; long = omega arith; patterned = r.0 } in
    subst (λ (x : Timed). (l ≡ step_columns x) × SoundStep pipes x) r.1 (is, sound)

next_step_read : (pipes i : ℕ) (bs : List ℕ) (s : Timed) → next_step_in pipes i bs ≡ Ok s → (bs ≡ step_columns s ++ 10 ∷ after_line bs) × SoundStep pipes s
next_step_read pipes i bs s e =
    let t = and_split (due (codes "STEP") (9 + pipes) i bs) (step_in i) s e in
    let d = due_read (codes "STEP") (9 + pipes) i bs t.0 t.1.0 in
    let c = step_read pipes i t.0 s d.long d.kinded t.1.1 in
    (d.is ∙ ap (λ (l : List ℕ). l ++ 10 ∷ after_line bs) c.0, c.1)

count_read : (i : ℕ) (l : List ℕ) (n : ℕ) → length l ≡ 9 → of_kind (codes "SCHD") l ≡ true → number_at i 0 1 100 l ≡ Ok n → (l ≡ count_columns n) × (1 ≤ n) × (n ≤ 100)
unfolding count_columns
count_read i l n long kind e =
    let n₁ = number_read i 0 1 100 l n (omega arith) e in
    let k = kind_read 83 67 72 68 l (omega arith) kind in
    let d = length-drop 9 l in
    let none : drop 9 l ≡ [] = nil_from_length (drop 9 l) (omega arith) in
    (one_field_split l ∙ (λ x. k x ++ (n₁.0 x ++ none x)) ∙ ap (λ (x : List ℕ). codes "SCHD" ++ x) (append-nil (written 5 n)), n₁.1, n₁.2)

-- no byte was left
pub ended_read : (bs : List ℕ) (i : ℕ) (ss qs : List Timed) → cond {A = Result (List Timed) Refusal} (eqb (length bs) 0) (Ok ss) (Err (TrailingBytes i)) ≡ Ok qs → (bs ≡ []) × (ss ≡ qs)
ended_read [] i ss qs e = (refl, cc)
ended_read (b ∷ bs) i ss qs e = absurd (let t : eqb (suc (length bs)) 0 ≡ false = grind (arith, nat_tests) in let f = ap (λ (x : Bool). cond {A = Result (List Timed) Refusal} x (Ok ss) (Err (TrailingBytes i))) t in cc)

-- read, then written
pub schedule_read : (pipes i : ℕ) (bs : List ℕ) (ss : List Timed) → schedule_in pipes i bs ≡ Ok ss → SoundSchedule pipes ss × (bs ≡ schedule_of ss)
unfolding schedule_of
schedule_read pipes i bs ss e =
    let s = and_split (next_count_in i bs) _ ss e in
    let n = s.0 in
    let t = and_split (due (codes "SCHD") 9 i bs) (number_at i 0 1 100) n s.1.0 in
    let l = t.0 in
    let d = due_read (codes "SCHD") 9 i bs l t.1.0 in
    let c = count_read i l n d.long d.kinded t.1.1 in
    let q = and_split (steps_in n pipes (i + 1) (after_line bs) []) _ ss s.1.1 in
    let r = q.0 in
    let p = lines_read (next_step_in pipes) step_columns (SoundStep pipes) (next_step_read pipes) n (i + 1) (after_line bs) [] r.0 r.1 q.1.0 in
    let f = ended_read r.1 (i + n + 1) r.0 ss q.1.1 in
    let same : p.new ≡ ss = sym p.all ∙ f.1 in
    let few = c.2 in
    let some = c.1 in
    let counted = p.counted in
    let written_count = sym p.counted in
    let sound : SoundSchedule pipes p.new = record { some = omega arith; few = omega arith; steps = p.sound } in
    let is : bs ≡ schedule_of p.new =
    d.is ∙ (λ x. c.0 x ++ 10 ∷ p.is x) ∙ (λ x. count_columns (written_count x) ++ 10 ∷ (flat_map step_line p.new ++ f.0 x))
    ∙ ap (λ (x : List ℕ). count_columns (length p.new) ++ 10 ∷ x) (append-nil (flat_map step_line p.new))
    ∙ sym (append_assoc (count_columns (length p.new)) (10 ∷ []) (flat_map step_line p.new)) in
    subst (λ (x : List Timed). SoundSchedule pipes x × (bs ≡ schedule_of x)) same (sound, is)

-- the columns of the first step line of a schedule that was read
step_width : (pipes i : ℕ) (bs : List ℕ) (ss : List Timed) → schedule_in pipes i bs ≡ Ok ss → length (first_line (after_line bs)) ≡ 9 + pipes
step_width pipes i bs ss e =
    let s = and_split (next_count_in i bs) _ ss e in
    let t = and_split (due (codes "SCHD") 9 i bs) (number_at i 0 1 100) s.0 s.1.0 in
    let d = due_read (codes "SCHD") 9 i bs t.0 t.1.0 in
    let c = number_read i 0 1 100 t.0 s.0 (omega (arith, d.long)) t.1.1 in
    let q = and_split (steps_in s.0 pipes (i + 1) (after_line bs) []) _ ss s.1.1 in
    first s.0 q.0 q.1.0 c.1
  where
    first : (n : ℕ) (r : List Timed × List ℕ) → steps_in n pipes (i + 1) (after_line bs) [] ≡ Ok r → 1 ≤ n → length (first_line (after_line bs)) ≡ 9 + pipes
    first zero r p h = absurd (omega arith)
    first (suc n) r p h =
        let s = and_split (next_step_in pipes (i + 1) (after_line bs)) _ r p in
        let t = and_split (due (codes "STEP") (9 + pipes) (i + 1) (after_line bs)) (step_in (i + 1)) s.0 s.1.0 in
        let d = due_read (codes "STEP") (9 + pipes) (i + 1) (after_line bs) t.0 t.1.0 in
        ap length d.line ∙ d.long

module _ (pipes : ℕ) where
  written_read : (ss : List Timed) → SoundSchedule pipes ss → (i : ℕ) → schedule_in pipes i (schedule_of ss) ≡ Ok ss
  written_read ss sound i = schedule_written pipes i ss sound

  -- what was neither refused nor read
  none_left : (i : ℕ) (bs : List ℕ) → ((ss : List Timed) → SoundSchedule pipes ss → bs ≡ schedule_of ss → ⊥) → (r : Result (List Timed) Refusal) → schedule_in pipes i bs ≡ r → (e : Refusal) × (schedule_in pipes i bs ≡ Err e)
  none_left i bs h (Ok ss) e = let r = schedule_read pipes i bs ss e in absurd (h ss r.0 r.1)
  none_left i bs h (Err d) e = (d, e)

  refused : (i : ℕ) (bs : List ℕ) → ((e : Refusal) × (schedule_in pipes i bs ≡ Err e)) ↔ ((ss : List Timed) → SoundSchedule pipes ss → bs ≡ schedule_of ss → ⊥)
  refused i bs = (
    (λ p ss a e.
        let r : schedule_in pipes i bs ≡ Ok ss = ap (schedule_in pipes i) e ∙ schedule_written pipes i ss a in
        let q = p.1 in
        absurd cc),
    (λ h. none_left i bs h (schedule_in pipes i bs) refl),
  )

  -- a schedule tells the number of pipes: its second line has a letter for each
  one : (others : ℕ) (ss ts : List Timed) → SoundSchedule pipes ss → SoundSchedule others ts → schedule_of ss ≡ schedule_of ts → ss ≡ ts
  one others ss ts a b e =
      let p = schedule_written pipes 1 ss a in
      let q = schedule_written others 1 ts b in
      let widths : 9 + pipes ≡ 9 + others = sym (step_width pipes 1 (schedule_of ss) ss p) ∙ ap (λ (bs : List ℕ). length (first_line (after_line bs))) e ∙ step_width others 1 (schedule_of ts) ts q in
      let same : pipes ≡ others = omega (arith, widths) in
      let r : ◌≡◌ {A = Result (List Timed) Refusal} (Ok ss) (Ok ts) = sym p ∙ (λ x. schedule_in (same x) 1 (e x)) ∙ q in
      cc

  pub schedule_laws : ScheduleLaws pipes
  schedule_laws = record { written_read = written_read; read_written = schedule_read pipes; refused = refused; one = one }
