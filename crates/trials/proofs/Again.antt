-- A sheet that is written again.
use Rattle.std.proofs.Common.{◌≡◌, ℕ, ◌+◌, ◌<◌, Bool, true, false, not, nat_eq, List, ◌++◌, length, take, drop, Ok, Result, sym, ap, ◌∙◌, arith}
use Rattle.std.proofs.lemmas.Cmp.{nat_list_eq_equiv}
use Rattle.std.proofs.lemmas.List.{take_at}
use lib.Pointwise.{pointwise}
use Rattle.network.specs.declared.table.Table.{Table}
use Rattle.network.specs.Pipes.{network_of}
use Rattle.formats.specs.declared.refusal.Refusal.{Refusal}
use Rattle.formats.specs.Sheets.{and_then}
use Rattle.formats.specs.Spaces.{put_at}
use Rattle.formats.specs.Written.{sheet_of}
use Rattle.formats.proofs.Lengths.{sheet_length, table_length}

front_of : (bs space after : List ℕ) (n : ℕ) → n ≡ 0 + length bs → after ≡ put_at 0 bs space → take n after ≡ bs
unfolding put_at
front_of bs space after n l e =
    ap (take n) (e ∙ ap (λ (m : ℕ). bs ++ drop m space) (let z : 0 + length bs ≡ length bs = omega arith in z))
    ∙ take_at bs (drop (length bs) space) n (let z : length bs ≡ n = omega (arith, l) in z)

-- the bytes that it is written as are those that it was read from
pub same_again : (bs space after part : List ℕ) (n : ℕ) (differs : Bool) → n ≡ 0 + length bs → after ≡ put_at 0 bs space → part ≡ bs
    → differs ≡ not (pointwise nat_eq (take n after) part) → differs ≡ false
same_again bs space after part n differs l e p d =
    d ∙ ap not (ap (λ x. pointwise nat_eq x part) (front_of bs space after n l e ∙ sym p) ∙ nat_list_eq_equiv.refl part)

-- and it fits into a space for the longest
pub fits_again : (t : Table) (space : ℕ) → space ≡ 12825 → space < 0 + length (sheet_of (network_of t)) → true ≡ false
fits_again t space e l =
    let held = t.held in
    let z : ◌≡◌ {A = ℕ} 0 1 = omega (arith, e, l, held, sheet_length (network_of t), table_length t) in cc

-- what is answered of a sheet that is read
pub answer_again : {A : Type 0} {x : A} (v : Result A Refusal) (differs : Bool) → v ≡ Ok x → differs ≡ false → Ok differs ≡ and_then v (λ _. Ok false)
answer_again v differs e d = ap Ok d ∙ sym (ap (λ r. and_then r (λ _. Ok false)) e)
