use Rattle.std.proofs.Common.{length, vec_items}
use Rattle.formats.specs.Readers.{rest}
use Rattle.compare_engines.specs.Scripts.{Lines}
use Rattle.compare_engines.proofs.scripts.read_script.Given as goal

abbrev pub invariant-loop-reader : goal.invariant-loop-reader
invariant-loop-reader l = Lines l.text l.space l.row l.reader.lines (rest l.reader) l.script.places (vec_items l.script.entries)

abbrev pub decreases-loop-reader : goal.decreases-loop-reader
decreases-loop-reader l = length (rest l.reader)
