-- What a valve lets through.
use Rattle.std.specs.Prelude.{ℕ}
use Rattle.network.specs.declared.valve.Valve.{Valve}
use Rattle.network.specs.declared.valve.Valve.TheVariants.{Open, Closed}

-- the most that a pipe with this valve and this limit may carry
abbrev pub room : Valve → ℕ → ℕ
room Open limit = limit
room Closed limit = 0
