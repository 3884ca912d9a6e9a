-- A page that grows by one pipe, or by one step.
use Rattle.std.proofs.Common.{◌≡◌, ℕ, suc, ◌+◌, ◌*◌, List, [], ◌∷◌, ◌++◌, length, sym, refl, ap, ◌∙◌, append_assoc, add-one, arith}
use Rattle.std.proofs.lemmas.List.{append-nil}
use Rattle.network.specs.Governing.{governing}
use Rattle.network.specs.Network.{Network}
use Rattle.network.specs.Reports.{report_of}
use Rattle.formats.specs.Schedules.{Timed}
use Rattle.rating.specs.Pages.{governing_row, step_lines, stepped, all_lines, litres, last_network}

pub row_none : (w : Network) → governing_row w 0 ≡ []
unfolding governing_row
row_none w = refl

pub row_more : (w : Network) (n : ℕ) → governing_row w (n + 1) ≡ governing_row w n ++ governing w (report_of w) n ∷ []
unfolding governing_row
row_more w n = ap (governing_row w) (add-one n)

pub last_none : (w : Network) → last_network w [] ≡ w
unfolding last_network
last_none w = refl

pub lines_none : (i : ℕ) (w : Network) → all_lines i w [] ≡ []
unfolding all_lines
lines_none i w = refl

pub litres_none : (w : Network) → litres w [] ≡ 0
unfolding litres
litres_none w = refl

pub last_more : (w : Network) (ss : List Timed) (s : Timed) → last_network w (ss ++ s ∷ []) ≡ stepped (last_network w ss) s
unfolding last_network
last_more w [] s = refl
last_more w (t ∷ ss) s = last_more (stepped w t) ss s

pub lines_more : (i : ℕ) (w : Network) (ss : List Timed) (s : Timed) → all_lines i w (ss ++ s ∷ []) ≡ all_lines i w ss ++ step_lines (i + length ss) (stepped (last_network w ss) s)
unfolding all_lines last_network
lines_more i w [] s = append-nil (step_lines i (stepped w s)) ∙ ap (λ (n : ℕ). step_lines n (stepped w s)) (let e : i ≡ i + 0 = omega arith in e)
lines_more i w (t ∷ ss) s =
    let u = stepped w t in
    ap (λ (l : List ℕ). step_lines i u ++ l) (lines_more (i + 1) u ss s)
    ∙ sym (append_assoc (step_lines i u) (all_lines (i + 1) u ss) (step_lines (i + 1 + length ss) (stepped (last_network u ss) s)))
    ∙ ap (λ (n : ℕ). (step_lines i u ++ all_lines (i + 1) u ss) ++ step_lines n (stepped (last_network u ss) s)) (let e : i + 1 + length ss ≡ i + suc (length ss) = omega arith in e)

pub litres_more : (w : Network) (ss : List Timed) (s : Timed) → litres w (ss ++ s ∷ []) ≡ litres w ss + (report_of (stepped (last_network w ss) s)).value * s.minutes
unfolding litres last_network
litres_more w [] s = omega arith
litres_more w (t ∷ ss) s =
    let u = stepped w t in
    ap (λ (n : ℕ). (report_of (stepped w t)).value * t.minutes + n) (litres_more u ss s) ∙ omega arith
