use Rattle.std.proofs.Common.{◌≡◌, length}
use Rattle.formats.specs.Fields.{number_in}
use Rattle.formats.proofs.fields.read_number.Given as goal

abbrev pub invariant-loop-rest : goal.invariant-loop-rest
invariant-loop-rest l = number_in l.rest ≡ number_in l.fn.field

abbrev pub decreases-loop-rest : goal.decreases-loop-rest
decreases-loop-rest l = length l.rest
