-- Lines that are read one after the other into places.
use Rattle.std.proofs.Common.{◌≡◌, ℕ, zero, suc, ◌+◌, ◌-◌, ◌<◌, ◌≤◌, true, cond, eqb, List, [], ◌∷◌, ◌++◌, map, length, take, drop, set, Ok, Err, Result, ap, ◌∙◌, subst, arith, length-set}
use Rattle.std.specs.List.{AllByRecursion}
use Rattle.std.proofs.ByRecursion.{All-weaker}
use Rattle.std.proofs.Math.Seq.{take-append_seam}
use Rattle.std.proofs.lemmas.List.{take_more_set, map_push, length-take-le}
use Rattle.std.proofs.lemmas.Slice.{drop-append-drop}
use Rattle.network.specs.declared.row.Row.{Row}
use Rattle.network.specs.Pipes.{pipe_of}
use Rattle.network.specs.Rows.{Each}
use Rattle.formats.specs.declared.header.Header.{Header}
use Rattle.formats.specs.declared.reader.Reader.{Reader}
use Rattle.formats.specs.declared.refusal.Refusal.{Refusal}
use Rattle.formats.specs.declared.refusal.Refusal.TheVariants.{TrailingBytes}
use Rattle.formats.specs.declared.schedule.TimedPattern.{TimedPattern}
use Rattle.formats.specs.Lines.{after_line}
use Rattle.formats.specs.Readers.{rest, Advanced}
use Rattle.formats.specs.Schedules.{next_count_in, steps_in, schedule_in, timed}
use Rattle.formats.specs.Sheets.{and_then, lines_in, header_in, pipes_in, sheet_in}

module _ {A X : Type 0} (next : ℕ → List ℕ → Result A Refusal) (meaning : X → A) (xs : List X) (k : ℕ) (x : X) (before after : Reader) where
  step : k < length xs → next (before.lines + 1) (rest before) ≡ Ok (meaning x) → (ys : List A)
      → lines_in next (length xs - k) (before.lines + 1) (rest before) ys ≡ lines_in next (length xs - (k + 1)) (before.lines + 1 + 1) (after_line (rest before)) (ys ++ meaning x ∷ [])
  step h e ys =
      ap (λ (n : ℕ). lines_in next n (before.lines + 1) (rest before) ys) (let n : length xs - k ≡ suc (length xs - (k + 1)) = omega arith in n)
      ∙ ap (λ r. and_then r (λ y. lines_in next (length xs - (k + 1)) (before.lines + 1 + 1) (after_line (rest before)) (ys ++ y ∷ []))) e

  pub said_more : k < length xs → next (before.lines + 1) (rest before) ≡ Ok (meaning x) → Advanced before after
      → lines_in next (length (set xs k x) - (k + 1)) (after.lines + 1) (rest after) (map meaning (take (k + 1) (set xs k x))) ≡ lines_in next (length xs - k) (before.lines + 1) (rest before) (map meaning (take k xs))
  said_more h e m =
      let n = length-set xs k x in
      let i = m.counted in
      let bs = m.left in
      let t = take_more_set xs k x h in
      let ys = map_push meaning (take k xs) x in
      let s = step h e (map meaning (take k xs)) in
      cc

-- places of which the first n were filled with ps
module _ {X : Type 0} (n : ℕ) (xs ps : List X) (h : n ≤ length xs) (e : length ps ≡ length (take n xs)) where
  pub placed : length ps ≡ n
  placed = e ∙ length-take-le n xs h

  pub front : take n (ps ++ drop n xs) ≡ ps
  front = subst (λ (m : ℕ). take m (ps ++ drop n xs) ≡ ps) placed (take-append_seam ps (drop n xs))

  pub behind : drop n (ps ++ drop n xs) ≡ drop n xs
  behind = drop-append-drop n xs ps n (omega arith) placed

each_of : (P : Row → Type 0) (rows more : List Row) → AllByRecursion P rows → Each P (rows ++ more) (length rows)
each_of P [] more a k h = absurd (omega arith)
each_of P (r ∷ rows) more a zero h = a.0
each_of P (r ∷ rows) more a (suc k) h = each_of P rows more a.1 k (omega arith)

pub each_front : (P Q : Row → Type 0) → ((r : Row) → P r → Q r) → (n : ℕ) (xs rows : List Row) → n ≤ length xs → length rows ≡ length (take n xs) → AllByRecursion P rows → Each Q (rows ++ drop n xs) n
each_front P Q weaker n xs rows h e a = subst (Each Q (rows ++ drop n xs)) (placed n xs rows h e) (each_of Q rows (drop n xs) (All-weaker P Q weaker rows a))

pub sheet_read : (most : ℕ) (h : Header) (xs rows : List Row) (old mid new : Reader) → h.pipes ≤ length xs → length rows ≡ length (take h.pipes xs)
    → header_in most (old.lines + 1) (rest old) ≡ Ok h → Advanced old mid
    → pipes_in (length (take h.pipes xs)) h.junctions (mid.lines + 1) (rest mid) [] ≡ Ok (map pipe_of rows, rest new)
    → sheet_in most (old.lines + 1) (rest old) ≡ Ok (record { junctions = h.junctions; pump = h.pump; outlet = h.outlet; pipes = map pipe_of (take h.pipes (rows ++ drop h.pipes xs)) }, rest new)
sheet_read most h xs rows old mid new fits e head m body =
    let n = length-take-le h.pipes xs fits in
    let i = m.counted in
    let bs = m.left in
    let t = front h.pipes xs rows fits e in
    ap (λ r. and_then r (λ h. and_then (pipes_in h.pipes h.junctions (old.lines + 1 + 1) (after_line (rest old)) []) (λ r. Ok (record { junctions = h.junctions; pump = h.pump; outlet = h.outlet; pipes = r.0 }, r.1)))) head
    ∙ ap (λ r. and_then r (λ r. Ok (record { junctions = h.junctions; pump = h.pump; outlet = h.outlet; pipes = r.0 }, r.1))) (let q : pipes_in h.pipes h.junctions (old.lines + 1 + 1) (after_line (rest old)) [] ≡ Ok (map pipe_of (take h.pipes (rows ++ drop h.pipes xs)), rest new) = cc in q)

pub schedule_read : (pipes n : ℕ) (xs steps : List TimedPattern) (old mid new : Reader) → n ≤ length xs → length steps ≡ length (take n xs)
    → next_count_in (old.lines + 1) (rest old) ≡ Ok n → Advanced old mid
    → steps_in (length (take n xs)) pipes (mid.lines + 1) (rest mid) [] ≡ Ok (map timed steps, rest new)
    → eqb (length (rest new)) 0 ≡ true
    → schedule_in pipes (old.lines + 1) (rest old) ≡ Ok (map timed (take n (steps ++ drop n xs)))
schedule_read pipes n xs steps old mid new fits e head m body done =
    let k = length-take-le n xs fits in
    let i = m.counted in
    let bs = m.left in
    let t = front n xs steps fits e in
    ap (λ r. and_then r (λ n. and_then (steps_in n pipes (old.lines + 1 + 1) (after_line (rest old)) []) (λ r. cond (eqb (length r.1) 0) (Ok r.0) (Err (TrailingBytes (old.lines + 1 + n + 1)))))) head
    ∙ ap (λ r. and_then r (λ r. cond (eqb (length r.1) 0) (Ok r.0) (Err (TrailingBytes (old.lines + 1 + n + 1))))) (let q : steps_in n pipes (old.lines + 1 + 1) (after_line (rest old)) [] ≡ Ok (map timed (take n (steps ++ drop n xs)), rest new) = cc in q)
    ∙ ap (λ b. cond b (Ok (map timed (take n (steps ++ drop n xs)))) (Err (TrailingBytes (old.lines + 1 + n + 1)))) done
