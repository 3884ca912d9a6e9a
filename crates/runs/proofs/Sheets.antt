-- Sheets, as engines load them.
use Rattle.std.proofs.Common.{◌≡◌, ℕ, ◌-◌, ◌≤◌, Bool, true, false, cond, ltb, List, ◌++◌, length, take, Ok, Err, Result, sym, ap, ◌∙◌, arith, length-append}
use Rattle.std.proofs.lemmas.List.{take_at}
use Rattle.std.proofs.lemmas.Bool.{le-ltb}
use Rattle.network.specs.Network.{Network, Sound}
use Rattle.formats.specs.declared.refusal.Refusal.{Refusal}
use Rattle.formats.specs.declared.refusal.Refusal.TheVariants.{FewPlaces}
use Rattle.texts.specs.Laws.{SheetLaws}
use Rattle.formats.specs.Sheets.{and_then, sheet_in}
use Rattle.formats.specs.Written.{sheet_of}
use Rattle.texts.proofs.SheetLaws.{sheet_laws}
use Rattle.interface.specs.Verdicts.{loading}

-- what a loading accepted began with a sheet
found : (b : Bool) (n : ℕ) (r : Result (Network × List ℕ) Refusal) (w : Network) (m : ℕ) → cond {A = Result (Network × ℕ) Refusal} b (Err FewPlaces) (and_then r (λ x. Ok (x.0, n - length x.1))) ≡ Ok (w, m)
    → (more : List ℕ) × (r ≡ Ok (w, more)) × (m ≡ n - length more)
found true n r w m e = let z : ◌≡◌ {A = ℕ} 0 1 = cc in absurd (omega arith)
found false n (Err d) w m e = let z : ◌≡◌ {A = ℕ} 0 1 = cc in absurd (omega arith)
found false n (Ok x) w m e =
    let p : ◌≡◌ {A = Network × ℕ} (x.0, n - length x.1) (w, m) = cc in
    (x.1, ap (λ (y : Network × ℕ). Ok (y.0, x.1)) p, sym (ap (λ (y : Network × ℕ). y.1) p))

module _ (most : ℕ) (held : most ≤ 64) where
  laws : SheetLaws most
  laws = sheet_laws most held

  pub loaded_sound : (places : ℕ) (text : List ℕ) (w : Network) (m : ℕ) → loading most places text ≡ Ok (w, m) → Sound w × (w.junctions ≤ most)
  loaded_sound places text w m e =
      let f = found (ltb places most) (length text) (sheet_in most 1 text) w m e in
      let a = (laws.read_written 1 text w f.0 f.1).0 in
      (a.sound, a.few)

  -- no other bytes give w
  pub only_sheet : (places : ℕ) (text : List ℕ) (w : Network) (m : ℕ) → loading most places text ≡ Ok (w, m) → (m ≡ length (sheet_of w)) × (take m text ≡ sheet_of w)
  only_sheet places text w m e =
      let f = found (ltb places most) (length text) (sheet_in most 1 text) w m e in
      let t = (laws.read_written 1 text w f.0 f.1).1 in
      let n : m ≡ length (sheet_of w) = omega (arith, f.2, ap length t, length-append (sheet_of w) f.0) in
      (n, ap (take m) t ∙ take_at (sheet_of w) f.0 m (sym n))

  -- a sheet gives its network back
  pub sheet_loads : (w : Network) → Sound w → w.junctions ≤ most → (places : ℕ) (more : List ℕ) → most ≤ places → loading most places (sheet_of w ++ more) ≡ Ok (w, length (sheet_of w))
  sheet_loads w s h places more l =
      let text = sheet_of w ++ more in
      ap (λ (b : Bool). cond {A = Result (Network × ℕ) Refusal} b (Err FewPlaces) (and_then (sheet_in most 1 text) (λ x. Ok (x.0, length text - length x.1)))) (le-ltb places most l)
      ∙ ap (λ (r : Result (Network × List ℕ) Refusal). and_then r (λ x. Ok (x.0, length text - length x.1))) (laws.written_read w (record { sound = s; few = h }) 1 more)
      ∙ ap (λ (n : ℕ). Ok (w, n)) (let e : length text - length more ≡ length (sheet_of w) = omega (arith, length-append (sheet_of w) more) in e)
