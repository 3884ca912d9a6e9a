-- Walks back over the steps that labels name.
use Rattle.std.specs.Prelude.{◌<◌, ◌≤◌, List, length}
use Rattle.std.specs.List.{AllByRecursion}
use Rattle.network.specs.declared.step.Step.{Step}
use Rattle.network.specs.Network.{Network}
use Rattle.network.specs.Residual.{size}
use Rattle.paths.specs.BestPaths.{via_at}
use Rattle.augmenting.specs.declared.walk.Walk.{Walk}
use Rattle.augmenting.specs.Chains.{spelled}

-- the steps that are left
abbrev pub left : {L : Type 0} → Network → Walk L → List Step
left w walk = spelled w (via_at walk.labels.now) walk.turns walk.at

-- it stands at a junction, each junction has a label, and the steps that are left are steps of the network
pub record Stands {L : Type 0} (w : Network) (walk : Walk L) : Type 0 where
  pub at_junction : walk.at < w.junctions
  pub labelled : w.junctions ≤ length walk.labels.now
  pub inside : AllByRecursion (λ s. s.pipe < size w) (left w walk)
