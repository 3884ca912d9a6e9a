-- How long the parts of a page are.
use Rattle.std.proofs.Common.{◌≡◌, ℕ, zero, suc, ◌+◌, ◌*◌, List, [], ◌∷◌, length, sym, refl, ap, ◌∙◌, suc-mul, arith, length-append}
use Rattle.network.specs.Governing.{governing}
use Rattle.network.specs.Network.{Pipe, Network}
use Rattle.network.specs.Reports.{report_of}
use Rattle.network.specs.Residual.{size}
use Rattle.formats.specs.Pages.{rate_line, governing_line, total_line}
use Rattle.formats.specs.Schedules.{Timed}
use Rattle.writing.proofs.PageLines.{rate_length, governing_length, total_length}
use Rattle.interface.specs.Verdicts.{each_set_by}
use Rattle.rating.specs.Pages.{governing_row, step_lines, stepped, all_lines, litres, page_of, page_length_of}

pub pipes_length : (w : Network) (n : ℕ) → length (governing_row w n) ≡ n
unfolding governing_row
pipes_length w zero = refl
pipes_length w (suc n) = length-append (governing_row w n) (governing w (report_of w) n ∷ []) ∙ omega (arith, pipes_length w n)

pub lines_length : (i : ℕ) (w : Network) → length (step_lines i w) ≡ w.junctions + size w + 29
unfolding step_lines
lines_length i w =
    let rate = rate_line i (report_of w) w.junctions in
    let marks = governing_line i (governing_row w (size w)) in
    length-append rate marks ∙ omega (arith, rate_length i (report_of w) w.junctions, governing_length i (governing_row w (size w)), pipes_length w (size w))

pub lettered_length : (bs : List ℕ) (ps : List Pipe) → length (each_set_by bs ps) ≡ length ps
lettered_length [] ps = refl
lettered_length (b ∷ bs) [] = refl
lettered_length (b ∷ bs) (p ∷ ps) = ap suc (lettered_length bs ps)

-- a step changes valves alone
pub stepped_size : (w : Network) (s : Timed) → size (stepped w s) ≡ size w
unfolding stepped
stepped_size w s = lettered_length s.letters w.pipes

pub stepped_junctions : (w : Network) (s : Timed) → (stepped w s).junctions ≡ w.junctions
unfolding stepped
stepped_junctions w s = refl

pub all_length : (i : ℕ) (w : Network) (ss : List Timed) → length (all_lines i w ss) ≡ length ss * (w.junctions + size w + 29)
unfolding all_lines
all_length i w [] = sym (let z : 0 * (w.junctions + size w + 29) ≡ 0 = omega arith in z)
all_length i w (s ∷ ss) =
    let u = stepped w s in
    let same : (stepped w s).junctions + size (stepped w s) + 29 ≡ w.junctions + size w + 29 = (λ x. stepped_junctions w s x + stepped_size w s x + 29) in
    let rest : length (all_lines (i + 1) (stepped w s) ss) ≡ length ss * (w.junctions + size w + 29) = all_length (i + 1) u ss ∙ ap (λ (n : ℕ). length ss * n) same in
    let first : length (step_lines i (stepped w s)) ≡ w.junctions + size w + 29 = lines_length i u ∙ same in
    length-append (step_lines i u) (all_lines (i + 1) u ss) ∙ omega (arith, suc-mul (length ss) (w.junctions + size w + 29))

-- the length of a page
pub page_of_length : (w : Network) (ss : List Timed) → length (page_of w ss) ≡ page_length_of (length ss) w.junctions (size w)
unfolding page_of
page_of_length w ss = length-append (all_lines 1 w ss) (total_line (litres w ss)) ∙ omega (arith, all_length 1 w ss, total_length (litres w ss))
