-- Sheets and whole texts: read as they are written, and refused for the first condition missed.
use Rattle.std.proofs.Common.{◌≡◌, ℕ, zero, suc, ◌+◌, ◌≤◌, List, [], ◌∷◌, ◌++◌, length, drop, Ok, Err, Result, sym, refl, ap, ◌∙◌, arith, length-append, ◌*◌, take, Some, codes}
use Rattle.network.specs.Network.{Network}
use Rattle.network.specs.Residual.{size}
use Rattle.formats.specs.declared.refusal.Refusal.{Refusal}
use Rattle.formats.specs.Fields.{number_in}
use Rattle.formats.specs.Lines.{after_line}
use Rattle.formats.specs.Schedules.{Timed, schedule_in, next_count_in, next_step_in, steps_in}
use Rattle.formats.specs.Sheets.{and_then, header_in, next_pipe_in, pipes_in, sheet_in, lines_in, due, number_at}
use Rattle.formats.specs.Written.{sheet_of, schedule_of}
use Rattle.texts.specs.Conditions.{first_missed, missed, sheet_conditions, schedule_conditions, after_lines, pipes_said, text_conditions, number_or, field, junctions_said, schedule_steps_said, after_sheet, steps_said}
use Rattle.texts.specs.Laws.{Accepted, SoundSchedule, TextLaws, RefusalLaws, SheetRead, SheetRefused, TextRead, TextRefused}
use Rattle.texts.specs.Texts.{text_of, schedule_for, text_in}
use Rattle.texts.proofs.FirstMissed.{chain, kept, header_in_numbers, refused_with, sheet_missed, schedule_missed}
use Rattle.texts.proofs.LineTexts.{and_split, ok_both, due_read, ranged_read}
use Rattle.texts.proofs.Reading.{sheet_of_text, schedule_of_text}
use Rattle.texts.proofs.ScheduleTexts.{schedule_written, schedule_read, ended_read}
use Rattle.texts.proofs.SheetLaws.{sheet_laws}

never : {A : Type 0} (r : Result A Refusal) (x : A) (e : Refusal) → r ≡ Ok x → r ≡ Err e → ⊥
never r x e p q = cc

-- as many items as lines, and what is behind those
lines_after : {A : Type 0} (next : ℕ → List ℕ → Result A Refusal) (k i : ℕ) (bs : List ℕ) (xs ys : List A) (rest : List ℕ) → lines_in next k i bs xs ≡ Ok (ys, rest) → (length ys ≡ length xs + k) × (rest ≡ after_lines k bs)
lines_after next zero i bs xs ys rest e = let p = ok_both xs ys bs rest e in (omega (arith, ap length p.0), sym p.1)
lines_after next (suc k) i bs xs ys rest e =
    let s = and_split (next i bs) _ (ys, rest) e in
    let r = lines_after next k (i + 1) (after_line bs) (xs ++ s.0 ∷ []) ys rest s.1.1 in
    (omega (arith, r.0, length-append xs (s.0 ∷ [])), r.1)

sheet_after : (most i : ℕ) (bs : List ℕ) (w : Network) (more : List ℕ) → sheet_in most i bs ≡ Ok (w, more) → (size w ≡ pipes_said bs) × (more ≡ after_sheet bs) × (w.junctions ≡ junctions_said bs)
sheet_after most i bs w more e =
    let s = and_split (header_in most i bs) _ (w, more) e in
    let h = s.0 in
    let t = and_split (pipes_in h.pipes h.junctions (i + 1) (after_line bs) []) _ (w, more) s.1.1 in
    let r = t.0 in
    let q = ok_both (record { junctions = h.junctions; pump = h.pump; outlet = h.outlet; pipes = r.0 }) w r.1 more t.1.1 in
    let numbers = header_in_numbers most i bs h s.1.0 in
    let said = numbers.1 in
    let a = lines_after (next_pipe_in h.junctions) h.pipes (i + 1) (after_line bs) [] r.0 r.1 t.1.0 in (
      sym (ap size q.0) ∙ a.0 ∙ (let z : 0 + h.pipes ≡ h.pipes = omega arith in z) ∙ sym said,
      sym q.1 ∙ a.1 ∙ ap (λ (k : ℕ). after_lines k (after_line bs)) (sym said),
      sym (ap (λ (w : Network). w.junctions) q.0) ∙ sym numbers.0,
    )

-- as many steps as the first line says
steps_counted : (pipes i : ℕ) (bs : List ℕ) (ss : List Timed) → schedule_in pipes i bs ≡ Ok ss → length ss ≡ schedule_steps_said bs
steps_counted pipes i bs ss e =
    let s = and_split (next_count_in i bs) _ ss e in
    let n = s.0 in
    let t = and_split (due (codes "SCHD") 9 i bs) (number_at i 0 1 100) n s.1.0 in
    let d = due_read (codes "SCHD") 9 i bs t.0 t.1.0 in
    let said : number_in (take 5 (drop (4 + 5 * 0) t.0)) ≡ Some n = (ranged_read i 1 100 (number_in (take 5 (drop (4 + 5 * 0) t.0))) n t.1.1).0 in
    let q = and_split (steps_in n pipes (i + 1) (after_line bs) []) _ ss s.1.1 in
    let a = lines_after (next_step_in pipes) n (i + 1) (after_line bs) [] q.0.0 q.0.1 q.1.0 in
    let all = (ended_read q.0.1 (i + n + 1) q.0.0 ss q.1.1).1 in
    sym (ap length all) ∙ a.0 ∙ (let z : 0 + n ≡ n = omega arith in z) ∙ sym (ap (λ (l : List ℕ). number_or (field 0 l)) d.line ∙ ap number_or said)

module _ (most : ℕ) (text : List ℕ) where
  pub text_missed : missed (text_in most text) ≡ first_missed (text_conditions most text)
  unfolding text_in schedule_for text_conditions
  text_missed =
      chain (sheet_in most 1 text) _ (sheet_conditions most 1 text) _ (sheet_missed most 1 text)
      (λ r e.
      let a = sheet_after most 1 text r.0 r.1 e in
      let n = size r.0 in
      let with : List Timed → Network × List Timed = λ ss. (r.0, ss) in
      kept (schedule_in n (2 + n) r.1) with ∙ schedule_missed n (2 + n) r.1
      ∙ (λ x. first_missed (schedule_conditions (a.0 x) (2 + a.0 x) (a.1 x))))

  -- what the first lines of a text say is so
  pub text_said : (w : Network) (ss : List Timed) → text_in most text ≡ Ok (w, ss) → (w.junctions ≡ junctions_said text) × (size w ≡ pipes_said text) × (length ss ≡ steps_said text)
  text_said w ss e =
      let s = sheet_of_text most text w ss e in
      let a = sheet_after most 1 text w s.0 s.1 in
      (a.2, a.0, steps_counted (size w) (2 + size w) s.0 ss (schedule_of_text most text w ss s.0 s.1 e) ∙ ap schedule_steps_said a.1)

  module _ (held : most ≤ 64) where
    pub sheet_is_read : (w : Network) (n : ℕ) → n ≤ length text → sheet_in most 1 text ≡ Ok (w, drop n text) → SheetRead most text w n
    sheet_is_read w n h e =
        let laws = sheet_laws most held in
        let t = (laws.taken 1 text w n h).0 e in
        record {
          accepted = t.0;
          taken = t.1;
          only = λ u more a p. (ok_both u w more (drop n text) (sym (ap (sheet_in most 1) p ∙ laws.written_read u a 1 more) ∙ e)).0;
          met = sym (sheet_missed most 1 text) ∙ ap missed e;
        }

    pub sheet_is_refused : (e : Refusal) → sheet_in most 1 text ≡ Err e → SheetRefused most text e
    sheet_is_refused e p =
        let laws = sheet_laws most held in
        record {
          first = sym (sheet_missed most 1 text) ∙ ap missed p;
          none = λ u more a q. never (sheet_in most 1 text) (u, more) e (ap (sheet_in most 1) q ∙ laws.written_read u a 1 more) p;
        }

    text_written : (u : Network) (ts : List Timed) → Accepted most u → SoundSchedule (size u) ts → text ≡ text_of u ts → text_in most text ≡ Ok (u, ts)
    unfolding text_of text_in schedule_for
    text_written u ts a b q =
        ap (text_in most) q
        ∙ ap (λ (r : Result (Network × List ℕ) Refusal). and_then r (λ r. schedule_for r.0 r.1)) ((sheet_laws most held).written_read u a 1 (schedule_of ts))
        ∙ ap (λ (r : Result (List Timed) Refusal). and_then {B = Network × List Timed} r (λ ss. Ok (u, ss))) (schedule_written (size u) (2 + size u) ts b)

    pub text_is_read : (w : Network) (ss : List Timed) (after : List ℕ) → sheet_in most 1 text ≡ Ok (w, after) → schedule_in (size w) (2 + size w) after ≡ Ok ss → text_in most text ≡ Ok (w, ss) → TextRead most text w ss
    unfolding text_of
    text_is_read w ss after p q e =
        let s = (sheet_laws most held).read_written 1 text w after p in
        let t = schedule_read (size w) (2 + size w) after ss q in
        record {
          accepted = s.0;
          scheduled = t.0;
          is = s.1 ∙ ap (λ (l : List ℕ). sheet_of w ++ l) t.1;
          only = λ u ts a b x. ok_both u w ts ss (sym (text_written u ts a b x) ∙ e);
          met = sym text_missed ∙ ap missed e;
        }

    pub text_is_refused : (e : Refusal) → text_in most text ≡ Err e → TextRefused most text e
    text_is_refused e p = record { first = sym text_missed ∙ ap missed p; none = λ u ts a b q. never (text_in most text) (u, ts) e (text_written u ts a b q) p }

    text_accepted : (w : Network) (ss : List Timed) → text_in most text ≡ Ok (w, ss) → Accepted most w × SoundSchedule (size w) ss × (text ≡ text_of w ss)
    unfolding text_in schedule_for text_of
    text_accepted w ss e =
        let s = sheet_of_text most text w ss e in
        let t = schedule_of_text most text w ss s.0 s.1 e in
        let a = (sheet_laws most held).read_written 1 text w s.0 s.1 in
        let b = schedule_read (size w) (2 + size w) s.0 ss t in
        (a.0, b.0, a.1 ∙ ap (λ (l : List ℕ). sheet_of w ++ l) b.1)

    none_left : (r : Result (Network × List Timed) Refusal) → text_in most text ≡ r → ((w : Network) (ss : List Timed) → Accepted most w → SoundSchedule (size w) ss → text ≡ text_of w ss → ⊥) → (e : Refusal) × (text_in most text ≡ Err e)
    none_left (Ok r) p h = let a = text_accepted r.0 r.1 p in absurd (h r.0 r.1 a.0 a.1 a.2)
    none_left (Err e) p h = (e, p)

pub text_laws : (most : ℕ) → most ≤ 64 → TextLaws most
text_laws most held = record {
  taken = λ bs w ss. (text_accepted most bs held w ss, λ a. text_written most bs held w ss a.0 a.1 a.2);
  refused = λ bs. ((λ p. (text_is_refused most bs held p.0 p.1).none), none_left most bs held (text_in most bs) refl);
}

pub refusal_laws : RefusalLaws
refusal_laws = record {
  sheets = λ most i bs e. refused_with (sheet_in most i bs) (first_missed (sheet_conditions most i bs)) e (sheet_missed most i bs);
  schedules = λ pipes i bs e. refused_with (schedule_in pipes i bs) (first_missed (schedule_conditions pipes i bs)) e (schedule_missed pipes i bs);
  texts = λ most bs e. refused_with (text_in most bs) (first_missed (text_conditions most bs)) e (text_missed most bs);
}
