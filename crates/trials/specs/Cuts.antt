-- Where a text is cut in two.
use Rattle.std.specs.Prelude.{ℕ, ◌+◌, List, length, min, Some, None, Option}

-- behind the byte at a place, or at the end where there is no such byte
abbrev pub cut_of : List ℕ → Option ℕ → ℕ
cut_of text (Some k) = min (k + 1) (length text)
cut_of text None = length text
