-- What a step line says.
use Rattle.std.proofs.Common.{◌≡◌, ℕ, ◌+◌, ◌≤◌, Bool, true, false, cond, List, length, drop, Ok, Err, Result, sym, refl, ap, ◌∙◌, arith}
use Rattle.std.proofs.lemmas.List.{length-drop}
use Rattle.formats.specs.declared.refusal.Refusal.{Refusal}
use Rattle.formats.specs.declared.refusal.Refusal.TheVariants.{WrongLetter}
use Rattle.formats.specs.Letters.{is_pattern}
use Rattle.formats.specs.Sheets.{number_at}
use Rattle.formats.specs.Schedules.{Timed, SoundStep, step_in}
use Rattle.formats.proofs.Numbers.{and_ok}

-- ls are the letters as the code cuts them
module _ (i : ℕ) (bs ls : List ℕ) (m : ℕ) (minutes : Ok m ≡ number_at i 0 1 1440 bs) (cut : ls ≡ drop 9 bs) where
  by : step_in i bs ≡ cond (is_pattern ls) (Ok (record { minutes = m; letters = ls })) (Err (WrongLetter i))
  by = and_ok _ m _ minutes ∙ ap (λ (l : List ℕ). cond {A = Result Timed Refusal} (is_pattern l) (Ok (record { minutes = m; letters = l })) (Err (WrongLetter i))) (sym cut)

  bad : (b : Bool) (d : Refusal) → Err d ≡ cond {A = Result (Unit {0}) Refusal} b (Ok tt) (Err (WrongLetter i)) → cond {A = Result Timed Refusal} b (Ok (record { minutes = m; letters = ls })) (Err (WrongLetter i)) ≡ Err d
  bad true d e = absurd cc
  bad false d e = cc

  pub step_bad : (d : Refusal) → Err d ≡ cond {A = Result (Unit {0}) Refusal} (is_pattern ls) (Ok tt) (Err (WrongLetter i)) → step_in i bs ≡ Err d
  step_bad d e = by ∙ bad (is_pattern ls) d e

  good : (b : Bool) → Ok tt ≡ cond {A = Result (Unit {0}) Refusal} b (Ok tt) (Err (WrongLetter i)) → b ≡ true
  good true e = refl
  good false e = absurd cc

  pub step_good : (pipes : ℕ) → 1 ≤ m → m ≤ 1440 → length bs ≡ 9 + pipes → Ok tt ≡ cond {A = Result (Unit {0}) Refusal} (is_pattern ls) (Ok tt) (Err (WrongLetter i))
      → (step_in i bs ≡ Ok (record { minutes = m; letters = ls })) × SoundStep pipes (record { minutes = m; letters = ls })
  step_good pipes some few long e =
      let p = good (is_pattern ls) e in
      let l = length-drop 9 bs in
      let c = ap length cut in
      (by ∙ ap (λ (b : Bool). cond {A = Result Timed Refusal} b (Ok (record { minutes = m; letters = ls })) (Err (WrongLetter i))) p, record { some = some; few = few; long = omega arith; patterned = p })
