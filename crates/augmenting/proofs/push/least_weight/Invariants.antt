use Rattle.std.proofs.Common.{◌≡◌}
use Rattle.network.specs.Pipes.{network_of, flow_of}
use Rattle.paths.specs.BestPaths.{via_at}
use Rattle.interface.specs.Augmentations.{least_weight_of}
use Rattle.augmenting.specs.Chains.{spelled}
use Rattle.augmenting.specs.Walks.{left, Stands}
use Rattle.augmenting.proofs.push.least_weight.Given as goal

abbrev pub invariant-loop-step : goal.invariant-loop-step
invariant-loop-step g l =
    let w = network_of l.table in
    let f = flow_of l.table in
    record {
      stands : Stands w l.walk;
      least : least_weight_of w f l.least (left w l.walk) ≡ least_weight_of w f l.most (spelled w (via_at l.labels) l.table.junctions l.goal);
    }

abbrev pub decreases-loop-step : goal.decreases-loop-step
decreases-loop-step g l = l.walk.turns
