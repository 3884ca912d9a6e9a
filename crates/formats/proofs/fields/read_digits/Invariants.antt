use Rattle.std.proofs.Common.{◌≡◌, drop}
use Rattle.formats.specs.Fields.{digits_from}
use Rattle.formats.proofs.fields.read_digits.Given as goal

abbrev pub invariant-loop-digit : goal.invariant-loop-digit
invariant-loop-digit l = digits_from l.sum (drop l.digit-index l.digits) ≡ digits_from 0 l.digits
