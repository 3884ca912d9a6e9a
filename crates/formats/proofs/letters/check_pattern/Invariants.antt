use Rattle.std.proofs.Common.{◌≡◌, drop}
use Rattle.formats.specs.Letters.{is_pattern}
use Rattle.formats.proofs.letters.check_pattern.Given as goal

abbrev pub invariant-loop-letter : goal.invariant-loop-letter
invariant-loop-letter l = is_pattern (drop l.letter-index l.letters) ≡ is_pattern l.letters
