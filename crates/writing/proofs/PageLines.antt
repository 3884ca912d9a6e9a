-- The lines of a page, piece by piece.
use Rattle.std.proofs.Common.{◌≡◌, ℕ, zero, suc, ◌+◌, ◌<◌, Bool, false, List, [], ◌∷◌, ◌++◌, map, length, get_or, sym, refl, ◌∙◌, arith, length-append}
use Rattle.std.proofs.lemmas.Grind.{common_steps}
use Rattle.std.proofs.lemmas.List.{ext_get_or, get_or_append_left, get_or-append_right, get_or-map, length-map}
use Rattle.network.specs.declared.report.Report.{Report}
use Rattle.formats.specs.declared.refusal.Refusal.{Refusal}
use Rattle.formats.specs.Pages.{side_letter, sides, mark, rate_line, governing_line, total_line, fail_line}
use Rattle.formats.proofs.Lengths.{length_written}

pub sides_length : (r : Report) (n : ℕ) → length (sides r n) ≡ n
unfolding sides
sides_length r zero = refl
sides_length r (suc n) = length-append (sides r n) (side_letter r n ∷ []) ∙ omega (arith, sides_length r n)

get_or_last : (ls : List ℕ) (f : ℕ → ℕ) (n k : ℕ) → length ls ≡ n → k < suc n → (k < n → get_or ls k 0 ≡ f k) → get_or (ls ++ f n ∷ []) k 0 ≡ f k
get_or_last ls f n k long h before = grind (arith, common_steps, get_or_append_left, get_or-append_right, before)

sides_at : (r : Report) (n k : ℕ) → k < n → get_or (sides r n) k 0 ≡ side_letter r k
unfolding sides
sides_at r zero k h = absurd (omega arith)
sides_at r (suc n) k h = get_or_last (sides r n) (side_letter r) n k (sides_length r n) h (sides_at r n k)

-- the letters of junctions, one by one
pub sides_by : (r : Report) (n : ℕ) (ls : List ℕ) → length ls ≡ n → ((k : ℕ) → k < n → get_or ls k 0 ≡ side_letter r k) → ls ≡ sides r n
sides_by r n ls long each =
    ext_get_or 0 ls (sides r n) (long ∙ sym (sides_length r n)) (λ k h. let below : k < n = omega arith in each k below ∙ sym (sides_at r n k below))

-- the marks of pipes, one by one
pub marks_by : (bs : List Bool) (ls : List ℕ) → length ls ≡ length bs → ((k : ℕ) → k < length bs → get_or ls k 0 ≡ mark (get_or bs k false)) → ls ≡ map mark bs
marks_by bs ls long each =
    ext_get_or 0 ls (map mark bs) (long ∙ sym (length-map bs mark)) (λ k h. let below : k < length bs = omega arith in each k below ∙ sym (get_or-map mark bs k false 0 below))

pub rate_length : (i : ℕ) (r : Report) (n : ℕ) → length (rate_line i r n) ≡ n + 19
unfolding rate_line
rate_length i r n = simp (length-append, length_written, sides_length) (omega arith)

pub governing_length : (i : ℕ) (bs : List Bool) → length (governing_line i bs) ≡ length bs + 10
unfolding governing_line
governing_length i bs = simp (length-append, length_written, length-map) (omega arith)

pub total_length : (n : ℕ) → length (total_line n) ≡ 19
unfolding total_line
total_length n = simp (length-append, length_written)

pub fail_length : (e : Refusal) → length (fail_line e) ≡ 15
unfolding fail_line
fail_length e = simp (length-append, length_written)
