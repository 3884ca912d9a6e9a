use Rattle.std.proofs.Common.{◌≡◌, ◌-◌}
use Rattle.formats.specs.Readers.{rest}
use Rattle.compare_engines.specs.Scripts.{behind_pipes}
use Rattle.compare_engines.proofs.scripts.skip_pipes.Given as goal

abbrev pub invariant-loop-passed : goal.invariant-loop-passed
invariant-loop-passed l = (behind_pipes (l.most - l.passed) l.reader.lines (rest l.reader) ≡ behind_pipes l.most l.initial.reader.lines (rest l.initial.reader)) × (l.reader.text.now ≡ l.initial.reader.text.now)
