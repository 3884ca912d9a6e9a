-- Sums over the numbers below n.
use Rattle.std.specs.Prelude.{ℕ, zero, suc, ◌+◌, Bool, cond}

-- h 0 + h 1 + .. + h (n - 1)
abbrev pub total : ℕ → (ℕ → ℕ) → ℕ
total zero h = 0
total (suc n) h = total n h + h n

-- x if the test passes, else nothing
abbrev pub only : Bool → ℕ → ℕ
only b x = cond b x 0
