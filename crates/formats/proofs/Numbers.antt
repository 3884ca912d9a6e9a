-- Numbers in their fields, and what follows them.
use Rattle.std.proofs.Common.{◌≡◌, ℕ, ◌+◌, ◌*◌, ◌≤◌, List, take, drop, Some, Ok, Result, sym, ap, ◌∙◌, arith}
use Rattle.std.proofs.lemmas.Bool.Decides.{nat_tests}
use Rattle.formats.specs.declared.refusal.Refusal.{Refusal}
use Rattle.formats.specs.Fields.{number_in}
use Rattle.formats.specs.Sheets.{and_then, ranged, number_at}

in_range : (i least most m : ℕ) → least ≤ m → m ≤ most → Ok m ≡ ranged i least most (Some m)
in_range i least most m h l = grind (arith, nat_tests)

pub inside : (bs : List ℕ) (k i least most m : ℕ) → Some m ≡ number_in (take 5 (drop (4 + 5 * k) bs)) → least ≤ m → m ≤ most → Ok m ≡ number_at i k least most bs
inside bs k i least most m e h l = in_range i least most m h l ∙ ap (ranged i least most) e

pub and_ok : {A B : Type 0} (r : Result A Refusal) (x : A) (f : A → Result B Refusal) → Ok x ≡ r → and_then r f ≡ f x
and_ok r x f e = ap (λ q. and_then q f) (sym e)
