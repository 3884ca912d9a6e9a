-- What is shown of networks, flows, cuts and reports. Limits are free, so that it holds of raised networks too.
use Rattle.std.specs.Prelude.{◌≡◌, ℕ, ◌<◌, false, ◌↔◌, List, pos, ◌≤ℤ◌, Decides}
use Rattle.network.specs.declared.step.Step.{Step}
use Rattle.network.specs.declared.valve.Valve.TheVariants.{Open}
use Rattle.network.specs.Changes.{raised}
use Rattle.network.specs.Cuts.{has, Cut, capacity, Minimum, InEvery, InSome, OneMinimum, SameCuts}
use Rattle.network.specs.Flows.{Flow, value, Greatest}
use Rattle.network.specs.Governing.{governing, Raises}
use Rattle.network.specs.Network.{Network}
use Rattle.network.specs.Paths.{Path}
use Rattle.network.specs.Reaches.{Sealed, Reached, Apart}
use Rattle.network.specs.Reports.{report_of}
use Rattle.network.specs.Residual.{pipe}

-- no flow brings more than a cut lets through
abbrev pub WeakDuality : Network → Type 0
WeakDuality w = (f : List ℕ) (s : ℕ) → Flow w f → Cut w s → value w f ≤ℤ pos (capacity w s)

-- a flow and a cut that show each other greatest and minimum
pub record Tight (w : Network) (f : List ℕ) (s : ℕ) : Type 0 where
  pub even : value w f ≡ pos (capacity w s)
  pub greatest : Greatest w f
  pub minimum : Minimum w s

-- they do so where no residual step leaves the cut
abbrev pub SealedCuts : Network → Type 0
SealedCuts w = (f : List ℕ) (s : ℕ) → Flow w f → Cut w s → Sealed w f s → Tight w f s

-- a greatest flow exists; flows are greatest exactly where they have no augmenting path, and then bring what a minimum cut lets through
pub record GreatestFlows (w : Network) : Type 0 where
  pub some : (f : List ℕ) × Greatest w f
  pub augmenting : (f : List ℕ) → Flow w f → Greatest w f ↔ ((ss : List Step) → Path w f w.pump ss w.outlet → ⊥)
  pub bring : (f : List ℕ) (s : ℕ) → Greatest w f → Minimum w s → value w f ≡ pos (capacity w s)

-- the report by cuts: its value is the capacity of the minimum cuts, of which near is the smallest and far the largest
pub record ByCuts (w : Network) : Type 0 where
  pub least : (s : ℕ) → Minimum w s → capacity w s ≡ (report_of w).value
  pub every : (k : ℕ) → Decides (has (report_of w).near k) (InEvery w k)
  pub some : (k : ℕ) → Decides (has (report_of w).far k) (InSome w k)
  pub smallest : Minimum w (report_of w).near
  pub largest : Minimum w (report_of w).far

-- the report by a greatest flow: its value, what the pump reaches, and what does not reach the outlet
pub record ByFlow (w : Network) (f : List ℕ) : Type 0 where
  pub value_is : value w f ≡ pos (report_of w).value
  pub reached : Reached w f w.pump (report_of w).near
  pub apart : Apart w f w.outlet (report_of w).far

-- a flow whose pump does not reach its outlet gives the report
abbrev pub FoundByFlow : Network → Type 0
FoundByFlow w = (f : List ℕ) (v near far : ℕ) → Flow w f → value w f ≡ pos v → Reached w f w.pump near → Apart w f w.outlet far → has near w.outlet ≡ false →
    report_of w ≡ record { value = v; near = near; far = far }

-- the sides are the same exactly where there is just one minimum cut
abbrev pub OneCut : Network → Type 0
OneCut w = ((report_of w).near ≡ (report_of w).far) ↔ OneMinimum w

-- two reports are equal exactly where the minimum cuts agree in capacity, in their common junctions and in all their junctions
abbrev pub EqualReports : Network → Network → Type 0
EqualReports w u = (report_of w ≡ report_of u) ↔ SameCuts w u

-- a pipe is governing exactly where it is open and one litre more on its limit raises the greatest value, and so the report's
pub record GoverningPipe (w : Network) (k : ℕ) : Type 0 where
  pub flows : Decides (governing w (report_of w) k) (((pipe w k).valve ≡ Open) × Raises w k)
  pub reports : Decides (governing w (report_of w) k) (((pipe w k).valve ≡ Open) × ((report_of w).value < (report_of (raised w k)).value))
