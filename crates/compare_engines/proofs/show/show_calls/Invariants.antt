use Rattle.std.proofs.Common.{◌≤◌}
use Rattle.compare_engines.proofs.show.show_calls.Given as goal

abbrev pub invariant-loop-k : goal.invariant-loop-k
invariant-loop-k l = l.junctions ≤ 64
