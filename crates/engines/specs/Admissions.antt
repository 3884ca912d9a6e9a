-- What a call on a pipe is asked first.
use Rattle.std.specs.Prelude.{◌≡◌, ℕ, ◌≤◌, ◌≢◌, ◌⊎◌, Ok, Err, Result}
use Rattle.network.specs.declared.pipe.Pipe.{Pipe}
use Rattle.network.specs.declared.table.Table.{Table}
use Rattle.network.specs.declared.valve.Valve.{Valve}
use Rattle.network.specs.Network.{Network}
use Rattle.network.specs.Pipes.{network_of}
use Rattle.network.specs.Residual.{pipe}
use Rattle.formats.specs.declared.refusal.Refusal.{Refusal}
use Rattle.interface.specs.Verdicts.{with_places, with_number}
use Rattle.engines.specs.Records.{StandsFor}

-- there are places enough, and the number is a pipe's
abbrev pub admitting : ℕ → ℕ → Network → ℕ → Result (Unit {0}) Refusal
admitting most places w k = with_places most places (with_number w k (Ok tt))

-- the pipe of that number, or what is amiss
abbrev pub Numbered : ℕ → Table → ℕ → Result Pipe Refusal → Type 0
Numbered places t k (Ok p) = (admitting 64 places (network_of t) k ≡ Ok tt) × (64 ≤ places) × StandsFor t k p
Numbered places t k (Err e) = admitting 64 places (network_of t) k ≡ Err e

-- the same, where the pipe's valve must be v: if it is not, that is refused by r
abbrev pub Standing : ℕ → Table → ℕ → Valve → Refusal → Result Pipe Refusal → Type 0
Standing places t k v r (Ok p) = (admitting 64 places (network_of t) k ≡ Ok tt) × (64 ≤ places) × StandsFor t k p × (p.valve ≡ v)
Standing places t k v r (Err e) =
    (admitting 64 places (network_of t) k ≡ Err e) ⊎ ((admitting 64 places (network_of t) k ≡ Ok tt) × ((pipe (network_of t) k).valve ≢ v) × (e ≡ r))
