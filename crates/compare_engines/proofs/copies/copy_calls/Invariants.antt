use Rattle.std.proofs.Common.{take, vec_items}
use Rattle.runs.specs.Agreements.{SameCalls}
use Rattle.compare_engines.specs.Scripts.{calls_of}
use Rattle.compare_engines.proofs.copies.copy_calls.Given as goal

abbrev pub invariant-loop-entry : goal.invariant-loop-entry
invariant-loop-entry l = SameCalls (calls_of (take l.entry-index l.entries)) (vec_items l.copies)
