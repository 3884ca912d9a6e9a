-- What the reader makes of a text.
use Rattle.std.proofs.Common.{◌≡◌, ℕ, ◌+◌, ◌≤◌, List, map, length, take, drop, Ok, Err, Result, sym, ap, ◌∙◌}
use Rattle.std.proofs.lemmas.List.{length-map, length-take-le}
use Rattle.network.specs.Network.{Network}
use Rattle.network.specs.Residual.{size}
use Rattle.formats.specs.declared.reader.Reader.{Reader}
use Rattle.formats.specs.declared.refusal.Refusal.{Refusal}
use Rattle.formats.specs.declared.schedule.TimedPattern.{TimedPattern}
use Rattle.formats.specs.Readers.{rest}
use Rattle.formats.specs.Schedules.{Timed, schedule_in, timed}
use Rattle.formats.specs.Sheets.{and_then, sheet_in}
use Rattle.texts.specs.Texts.{schedule_for, text_in}
use Rattle.texts.proofs.LineTexts.{and_split, ok_both}

-- a new reader is at line 1
pub sheet_start : (most : ℕ) (text : List ℕ) (r : Reader) → r.text.now ≡ text → r.at ≡ 0 → r.lines ≡ 0 → sheet_in most (r.lines + 1) (rest r) ≡ sheet_in most 1 text
sheet_start most text r t a l = (λ x. sheet_in most (l x + 1) (drop (a x) (t x)))

pub steps_length : (steps : List TimedPattern) (n : ℕ) → n ≤ length steps → length (map timed (take n steps)) ≡ n
steps_length steps n h = length-map (take n steps) timed ∙ length-take-le n steps h

module _ (most : ℕ) (text : List ℕ) where
  pub sheet_missed : (e : Refusal) → sheet_in most 1 text ≡ Err e → text_in most text ≡ Err e
  unfolding text_in
  sheet_missed e p = ap (λ (r : Result (Network × List ℕ) Refusal). and_then r (λ r. schedule_for r.0 r.1)) p

  module _ (w : Network) (after : List ℕ) (sheet : sheet_in most 1 text ≡ Ok (w, after)) where
    by_schedule : text_in most text ≡ and_then (schedule_in (size w) (2 + size w) after) (λ ss. Ok (w, ss))
    unfolding text_in schedule_for
    by_schedule = ap (λ (r : Result (Network × List ℕ) Refusal). and_then r (λ r. schedule_for r.0 r.1)) sheet

    pub schedule_missed : (e : Refusal) → schedule_in (size w) (2 + size w) after ≡ Err e → text_in most text ≡ Err e
    schedule_missed e p = by_schedule ∙ ap (λ (r : Result (List Timed) Refusal). and_then {B = Network × List Timed} r (λ ss. Ok (w, ss))) p

    pub text_read : (ss : List Timed) → schedule_in (size w) (2 + size w) after ≡ Ok ss → text_in most text ≡ Ok (w, ss)
    text_read ss p = by_schedule ∙ ap (λ (r : Result (List Timed) Refusal). and_then {B = Network × List Timed} r (λ ss. Ok (w, ss))) p

  -- the sheet of a text that was read
  pub sheet_of_text : (w : Network) (ss : List Timed) → text_in most text ≡ Ok (w, ss) → (after : List ℕ) × (sheet_in most 1 text ≡ Ok (w, after))
  unfolding text_in schedule_for
  sheet_of_text w ss e =
      let s = and_split (sheet_in most 1 text) _ (w, ss) e in
      let r = s.0 in
      let t = and_split (schedule_in (size r.0) (2 + size r.0) r.1) _ (w, ss) s.1.1 in
      (r.1, s.1.0 ∙ ap (λ (u : Network). Ok (u, r.1)) (ok_both r.0 w t.0 ss t.1.1).0)

  -- and its schedule
  pub schedule_of_text : (w : Network) (ss : List Timed) (after : List ℕ) → sheet_in most 1 text ≡ Ok (w, after) → text_in most text ≡ Ok (w, ss) → schedule_in (size w) (2 + size w) after ≡ Ok ss
  schedule_of_text w ss after p e =
      let t = and_split (schedule_in (size w) (2 + size w) after) _ (w, ss) (sym (by_schedule w after p) ∙ e) in
      t.1.0 ∙ ap (λ (x : List Timed). Ok x) (ok_both w w t.0 ss t.1.1).1
