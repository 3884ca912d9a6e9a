-- The two lines of a step, piece by piece.
use Rattle.std.proofs.Common.{◌≡◌, ℕ, ◌+◌, ◌≤◌, Bool, List, ◌++◌, length, ap, ◌∙◌}
use Rattle.network.specs.declared.report.Report.{Report}
use Rattle.network.specs.Network.{Network}
use Rattle.network.specs.Reports.{report_of}
use Rattle.network.specs.Residual.{size}
use Rattle.formats.specs.Pages.{rate_line, governing_line}
use Rattle.formats.specs.Spaces.{put_at}
use Rattle.writing.proofs.Puts.{put_then}
use Rattle.rating.specs.Pages.{governing_row, step_lines}

module _ (s : List ℕ) (at : ℕ) (inside : at ≤ length s) where
  -- a piece behind others
  pub then : (xs ys b c : List ℕ) (next : ℕ) → b ≡ put_at at xs s → c ≡ put_at next ys b → next ≡ at + length xs → c ≡ put_at at (xs ++ ys) s
  then xs ys b c next e f n = f ∙ ap (put_at next ys) e ∙ put_then s at inside xs ys next n

  pub lines_done : (b c : List ℕ) (step next : ℕ) (w : Network) (r : Report) (j p : ℕ) (marks : List Bool) → r ≡ report_of w → j ≡ w.junctions → p ≡ size w → marks ≡ governing_row w p
      → next ≡ at + length (rate_line step r j) → b ≡ put_at at (rate_line step r j) s → c ≡ put_at next (governing_line step marks) b → c ≡ put_at at (step_lines step w) s
  unfolding step_lines
  lines_done b c step next w r j p marks er ej ep em n e f =
      then (rate_line step r j) (governing_line step marks) b c next e f n
      ∙ (λ x. put_at at (rate_line step (er x) (ej x) ++ governing_line step ((em ∙ ap (governing_row w) ep) x)) s)
