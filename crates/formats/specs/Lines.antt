-- Lines of a text: each ends in a line feed, the byte 10.
use Rattle.std.specs.Prelude.{ℕ, ◌+◌, Bool, not, List, length, take, drop, ◌==◌, nat_lt}
use Rattle.std.specs.List.{prefix_len}

abbrev pub in_line : ℕ → Bool
in_line b = not (b == 10)

-- whether a line feed is there
abbrev pub ended : List ℕ → Bool
ended bs = nat_lt (prefix_len in_line bs) (length bs)

-- the first line of a text, without its line feed
abbrev pub first_line : List ℕ → List ℕ
first_line bs = take (prefix_len in_line bs) bs

-- what follows the first line and its line feed
abbrev pub after_line : List ℕ → List ℕ
after_line bs = drop (prefix_len in_line bs + 1) bs
