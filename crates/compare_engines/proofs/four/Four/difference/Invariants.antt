use Rattle.std.proofs.Common.{ℕ, ◌<◌, vec_items}
use Rattle.compare_engines.specs.Agreements.{AgreeAt}
use Rattle.compare_engines.proofs.four.Four.difference.Given as goal

abbrev pub invariant-loop-call : goal.invariant-loop-call
invariant-loop-call l = (i : ℕ) → i < l.call → AgreeAt (vec_items l.self.warm_fewest) (vec_items l.self.warm_widest) (vec_items l.self.cold_fewest) (vec_items l.self.cold_widest) i
