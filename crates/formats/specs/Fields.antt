-- Number fields: decimal digits, right-justified, blanks to the left, no sign and no needless zero.
use Rattle.std.specs.Prelude.{ℕ, zero, suc, ◌+◌, ◌-◌, ◌*◌, ◌/◌, ◌%◌, Bool, cond, ◌&&◌, List, [], ◌∷◌, ◌++◌, Some, None, Option, ◌==◌, nat_le, nat_lt}

-- the bytes of the digits 0 to 9 are 48 to 57
abbrev pub digit : ℕ → Bool
digit b = nat_le 48 b && nat_le b 57

-- the number that n and then the digits bs spell, if it is below 2 ^ 32
abbrev pub digits_from : ℕ → List ℕ → Option ℕ
digits_from n [] = Some n
digits_from n (b ∷ bs) = cond (digit b) (cond (nat_lt (n * 10 + (b - 48)) 4294967296) (digits_from (n * 10 + (b - 48)) bs) None) None

abbrev pub lone_zero : List ℕ → Option ℕ
lone_zero [] = Some 0
lone_zero (b ∷ bs) = None

-- blanks (the byte 32), and then a number; a zero stands alone
abbrev pub number_in : List ℕ → Option ℕ
number_in [] = None
number_in (b ∷ bs) = cond (b == 32) (number_in bs) (cond (b == 48) (lone_zero bs) (digits_from 0 (b ∷ bs)))

-- the last digit of n, or a blank where n is 0
abbrev pub digit_or_blank : ℕ → ℕ
digit_or_blank n = cond (n == 0) 32 (48 + n % 10)

-- n in w columns, right-justified, and blanks in place of 0
abbrev pub padded : ℕ → ℕ → List ℕ
padded zero n = []
padded (suc w) n = padded w (n / 10) ++ digit_or_blank n ∷ []

-- n in w columns, right-justified; 0 is written as the digit
unfoldable pub written : ℕ → ℕ → List ℕ
written zero n = []
written (suc w) n = padded w (n / 10) ++ (48 + n % 10) ∷ []
