-- The number of each refusal, and the line that it names, or 0.
use Rattle.std.specs.Prelude.{ℕ}
use Rattle.formats.specs.declared.refusal.Refusal.{Refusal}
use Rattle.formats.specs.declared.refusal.Refusal.TheVariants.{BadLine, WrongKind, BadNumber, OutOfRange, WrongLetter, SameEnds, TrailingBytes, NoSuchPipe, FewPlaces, LittleSpace, AlreadyOpen, AlreadyClosed}

abbrev pub number : Refusal → ℕ
number (BadLine n) = 1
number (WrongKind n) = 2
number (BadNumber n) = 3
number (OutOfRange n) = 4
number (WrongLetter n) = 5
number (SameEnds n) = 6
number (TrailingBytes n) = 7
number NoSuchPipe = 8
number FewPlaces = 9
number LittleSpace = 9
number AlreadyOpen = 11
number AlreadyClosed = 12

abbrev pub line : Refusal → ℕ
line (BadLine n) = n
line (WrongKind n) = n
line (BadNumber n) = n
line (OutOfRange n) = n
line (WrongLetter n) = n
line (SameEnds n) = n
line (TrailingBytes n) = n
line NoSuchPipe = 0
line FewPlaces = 0
line LittleSpace = 0
line AlreadyOpen = 0
line AlreadyClosed = 0
