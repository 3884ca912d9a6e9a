use Rattle.std.proofs.Common.{ℕ, ◌<◌, slice_index}
use Rattle.writing.proofs.page.put_letters.Given as goal

abbrev pub invariant-loop-k : goal.invariant-loop-k
invariant-loop-k g l = (k : ℕ) → k < l.k → goal.F-post g l.letter_of k (slice_index l.columns k)
