use Rattle.std.proofs.Common.{◌≡◌}
use Rattle.std.specs.List.{AllByRecursion}
use Rattle.network.specs.Pipes.{network_of, flow_of}
use Rattle.network.specs.Pushing.{pushed}
use Rattle.paths.specs.BestPaths.{via_at}
use Rattle.augmenting.specs.Chains.{spelled, Takes, Once}
use Rattle.augmenting.specs.Walks.{left, Stands}
use Rattle.augmenting.proofs.push.push.Given as goal

abbrev pub invariant-loop-step : goal.invariant-loop-step
invariant-loop-step g l =
    let w = network_of l.initial.table in
    record {
      stands : Stands w l.walk;
      same : network_of l.table ≡ w;
      count : l.table.count ≡ l.initial.table.count;
      takes : AllByRecursion (Takes w (flow_of l.table) l.amount) (left w l.walk);
      once : Once (left w l.walk);
      pushes : pushed (flow_of l.table) l.amount (left w l.walk) ≡ pushed (flow_of l.initial.table) l.amount (spelled w (via_at l.labels) l.initial.table.junctions l.goal);
    }

abbrev pub decreases-loop-step : goal.decreases-loop-step
decreases-loop-step g l = l.walk.turns
