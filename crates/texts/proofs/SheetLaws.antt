-- The laws of sheets, gathered.
use Rattle.std.proofs.Common.{◌≡◌, ℕ, ◌≤◌, ◌↔◌, List, ◌++◌, length, take, drop, Ok, Err, Result, sym, refl, ap, ◌∙◌, arith, length-append}
use Rattle.std.proofs.lemmas.List.{take-append-drop, take_at, length-drop}
use Rattle.network.specs.Network.{Network, Sound}
use Rattle.formats.specs.declared.refusal.Refusal.{Refusal}
use Rattle.texts.specs.Laws.{Accepted, SheetLaws, OneSheet}
use Rattle.formats.specs.Sheets.{sheet_in}
use Rattle.formats.specs.Written.{sheet_of}
use Rattle.texts.proofs.LineTexts.{ok_both}
use Rattle.texts.proofs.SheetTexts.{sheet_written, sheet_read}

module _ (most : ℕ) (held : most ≤ 64) where
  written_read : (w : Network) → Accepted most w → (i : ℕ) (more : List ℕ) → sheet_in most i (sheet_of w ++ more) ≡ Ok (w, more)
  written_read w a i more = sheet_written most i w more a.sound a.few

  read_written : (i : ℕ) (bs : List ℕ) (w : Network) (more : List ℕ) → sheet_in most i bs ≡ Ok (w, more) → Accepted most w × (bs ≡ sheet_of w ++ more)
  read_written i bs w more e = let r = sheet_read most i bs w more held e in (record { sound = r.1; few = r.2 }, r.0)

  taken : (i : ℕ) (bs : List ℕ) (w : Network) (n : ℕ) → n ≤ length bs → (sheet_in most i bs ≡ Ok (w, drop n bs)) ↔ (Accepted most w × (take n bs ≡ sheet_of w))
  taken i bs w n h = (
    (λ e.
        let r = read_written i bs w (drop n bs) e in
        let l : length (sheet_of w) ≡ n = omega (arith, ap length r.1, length-append (sheet_of w) (drop n bs), length-drop n bs) in
        (r.0, ap (take n) r.1 ∙ take_at (sheet_of w) (drop n bs) n l)),
    (λ p. ap (sheet_in most i) (sym (take-append-drop n bs) ∙ ap (λ (x : List ℕ). x ++ drop n bs) p.1) ∙ written_read w p.0 i (drop n bs)),
  )

  -- what was neither refused nor read
  none_left : (i : ℕ) (bs : List ℕ) → ((w : Network) (more : List ℕ) → Accepted most w → bs ≡ sheet_of w ++ more → ⊥) → (r : Result (Network × List ℕ) Refusal) → sheet_in most i bs ≡ r → (e : Refusal) × (sheet_in most i bs ≡ Err e)
  none_left i bs h (Ok x) e = let r = read_written i bs x.0 x.1 e in absurd (h x.0 x.1 r.0 r.1)
  none_left i bs h (Err d) e = (d, e)

  refused : (i : ℕ) (bs : List ℕ) → ((e : Refusal) × (sheet_in most i bs ≡ Err e)) ↔ ((w : Network) (more : List ℕ) → Accepted most w → bs ≡ sheet_of w ++ more → ⊥)
  refused i bs = (
    (λ p w more a e.
        let r : sheet_in most i bs ≡ Ok (w, more) = ap (sheet_in most i) e ∙ written_read w a i more in
        let q = p.1 in
        absurd cc),
    (λ h. none_left i bs h (sheet_in most i bs) refl),
  )

  pub sheet_laws : SheetLaws most
  sheet_laws = record { written_read = written_read; read_written = read_written; taken = taken; refused = refused }

pub one_sheet : (w u : Network) → Sound w → Sound u → OneSheet w u
one_sheet w u s t more others e =
    ok_both w u more others (sym (sheet_written 64 1 w more s s.most) ∙ ap (sheet_in 64 1) e ∙ sheet_written 64 1 u others t t.most)
