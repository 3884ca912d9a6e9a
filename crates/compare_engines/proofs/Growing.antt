-- Calls that are added line by line.
use Rattle.std.proofs.Common.{◌≡◌, ℕ, ◌+◌, true, List, [], ◌∷◌, ◌++◌, length, drop, IfOk as made, Ok, Err, vec_items, Result, sym, refl, ap, ◌∙◌, subst, append_assoc, append-nil, arith}
use Rattle.std.specs.declared.alloc.AllocError.{AllocError}
use Rattle.formats.specs.Lines.{ended, first_line, after_line}
use Rattle.formats.specs.Readers.{rest, Advanced}
use Rattle.formats.specs.declared.reader.Line.{Line}
use Rattle.formats.specs.declared.reader.Reader.{Reader}
use Rattle.runs.specs.declared.call.Request.{Request}
use Rattle.compare_engines.specs.declared.entry.Entry.{Entry}
use Rattle.compare_engines.specs.declared.order.Order.{Order}
use Rattle.compare_engines.specs.declared.script.Script.{Script}
use Rattle.compare_engines.specs.Scripts.{line_in, behind, Makes, Adds, entered, places_after, Lines, none, more, Extends}
use Rattle.compare_engines.proofs.Passing.{shorter, within}

module _ {text space row : List ℕ} (l : Line) (o o' : Order) (is : o ≡ o') (before after : Script) where
  -- an order that makes no call
  pub adds_none : Makes l.bytes.now text space row o' [] → vec_items after.entries ≡ vec_items before.entries → after.places ≡ places_after before.places o' → Adds text space row l o before after
  adds_none m c p = let P : Order → Type 0 = λ x. Adds text space row l x before after in subst P (sym is) (record { requests = []; made = m; entries = c ∙ sym (append-nil (vec_items before.entries)); places = p })

  -- one that makes one
  pub adds_one : (q : Request) (r : Result (Unit {0}) AllocError) → Makes l.bytes.now text space row o' (q ∷ []) → (places_after before.places o' ≡ before.places)
      → made r (λ _. vec_items after.entries ≡ vec_items before.entries ++ entered before.places l q ∷ []) → after.places ≡ before.places
      → made r (λ _. Adds text space row l o before after)
  adds_one q (Ok u) m same c p = let P : Order → Type 0 = λ x. Adds text space row l x before after in subst P (sym is) (record { requests = q ∷ []; made = m; entries = c; places = p ∙ sym same })
  adds_one q (Err e) m same c p = tt

  -- one that makes two
  pub adds_two : (between : Script) (q s : Request) (r : Result (Unit {0}) AllocError) → Makes l.bytes.now text space row o' (q ∷ s ∷ []) → (places_after before.places o' ≡ before.places)
      → vec_items between.entries ≡ vec_items before.entries ++ entered before.places l q ∷ [] → between.places ≡ before.places
      → made r (λ _. vec_items after.entries ≡ vec_items between.entries ++ entered between.places l s ∷ []) → after.places ≡ between.places
      → made r (λ _. Adds text space row l o before after)
  adds_two between q s (Ok u) m same c p d t = let P : Order → Type 0 = λ x. Adds text space row l x before after in subst P (sym is) (record {
    requests = q ∷ s ∷ [];
    made = m;
    entries = d ∙ (λ i. c i ++ entered (p i) l s ∷ []) ∙ append_assoc (vec_items before.entries) (entered before.places l q ∷ []) (entered before.places l s ∷ []);
    places = t ∙ p ∙ sym same;
  })
  adds_two between q s (Err e) m same c p d t = tt

-- one line more
moved : {text space row : List ℕ} (i i' : ℕ) (bs bs' : List ℕ) (p p' : ℕ) (es es' : List Entry) → i ≡ i' → bs ≡ bs' → p ≡ p' → es ≡ es' → Lines text space row i bs p es → Lines text space row i' bs' p' es'
moved {text} {space} {row} i i' bs bs' p p' es es' a b c d l =
    subst (λ (x : ℕ). Lines text space row x bs' p' es') a (subst (λ (x : List ℕ). Lines text space row i x p' es') b (subst (λ (x : ℕ). Lines text space row i bs x es') c (subst (λ (x : List Entry). Lines text space row i bs p x) d l)))

pub extends : {space row : List ℕ} (before after : Script) (from middle to : Reader) (o : Order) (line : Line) (left : List ℕ)
    → line_in (from.lines + 1) (rest from) ≡ Ok o → ended (rest from) ≡ true → line.bytes.now ≡ first_line (rest from) → line.number ≡ from.lines + 1 → left ≡ rest from → Advanced from middle
    → (to.lines, rest to) ≡ behind o middle.lines (rest middle) → Adds left space row line o before after
    → Extends space row before from after to
extends {space} {row} before after from middle to o line left q e f n g v w a =
    let there : (to.lines, rest to) ≡ behind o (from.lines + 1) (after_line (rest from)) = w ∙ (λ i. behind o (v.counted i) (v.left i)) in
    let made : Makes line.bytes.now (rest from) space row o a.requests = subst (λ (x : List ℕ). Makes line.bytes.now x space row o a.requests) g a.made in
    record {
      lines = λ text l. moved _ _ _ _ _ _ _ _ (sym (ap (λ x. x.0) there)) (sym (ap (λ x. x.1) there)) (sym a.places) (sym a.entries) (more line l n f q made);
      shorter = omega (arith, ap (λ x. length x.1) there, within o (from.lines + 1) (after_line (rest from)), shorter (rest from) e);
    }

pub begun : {space row : List ℕ} (text : List ℕ) (r : Reader) (es : List Entry) → r.text.now ≡ text → r.at ≡ 0 → r.lines ≡ 0 → es ≡ [] → Lines text space row r.lines (rest r) 64 es
begun text r es t a l c = moved _ _ _ _ _ _ _ _ (sym l) (λ i. drop (sym a i) (sym t i)) refl (sym c) none
