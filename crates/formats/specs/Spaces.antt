-- A caller's space, and what is written over it.
use Rattle.std.specs.Prelude.{◌≡◌, ℕ, ◌+◌, ◌<◌, ◌≤◌, List, ◌++◌, length, take, drop, Ok, Err, Result}
use Rattle.formats.specs.declared.refusal.Refusal.{Refusal}
use Rattle.formats.specs.declared.refusal.Refusal.TheVariants.{LittleSpace}

-- a space with bytes written over it from a place on; all others stay
unfoldable pub put_at : ℕ → List ℕ → List ℕ → List ℕ
put_at at bs space = take at space ++ (bs ++ drop (at + length bs) space)

-- bytes that fit are written, and the answer is the place behind them; others are refused, and the space stays as it was
abbrev pub Put : ℕ → List ℕ → List ℕ → Result ℕ Refusal → List ℕ → Type 0
Put at bs before (Ok n) after = (at + length bs ≤ length before) × (n ≡ at + length bs) × (after ≡ put_at at bs before)
Put at bs before (Err e) after = (e ≡ LittleSpace) × (length before < at + length bs) × (after ≡ before)
