-- Governing pipes: those that lie in every minimum cut.
use Rattle.std.specs.Prelude.{ℕ, Bool, true, false, not, ◌&&◌, List, ◌<ℤ◌}
use Rattle.network.specs.declared.report.Report.{Report}
use Rattle.network.specs.declared.valve.Valve.{Valve}
use Rattle.network.specs.declared.valve.Valve.TheVariants.{Open, Closed}
use Rattle.network.specs.Changes.{raised}
use Rattle.network.specs.Cuts.{has}
use Rattle.network.specs.Flows.{Flow, value}
use Rattle.network.specs.Network.{Network}
use Rattle.network.specs.Residual.{pipe}

abbrev pub is_open : Valve → Bool
is_open Open = true
is_open Closed = false

-- pipe k is open, starts in the near side and ends outside the far side; a pipe that does not exist is not
abbrev pub governing : Network → Report → ℕ → Bool
governing w r k = is_open (pipe w k).valve && (has r.near (pipe w k).from && not (has r.far (pipe w k).to))

-- one litre more on the limit of pipe k raises the greatest value: a flow then exceeds every flow now
abbrev pub Raises : Network → ℕ → Type 0
Raises w k = (g : List ℕ) × Flow (raised w k) g × ((f : List ℕ) → Flow w f → value w f <ℤ value (raised w k) g)
