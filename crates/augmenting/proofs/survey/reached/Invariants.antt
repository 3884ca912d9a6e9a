use Rattle.std.proofs.Common.{◌≡◌, ◌-◌, ◌^◌, ◌<◌, true}
use Rattle.network.specs.Cuts.{has}
use Rattle.network.specs.Pipes.{network_of, flow_of}
use Rattle.augmenting.specs.Closures.{From}
use Rattle.augmenting.proofs.survey.reached.Given as goal

abbrev pub invariant-loop-seen : goal.invariant-loop-seen
invariant-loop-seen l =
    (l.seen < 2 ^ l.table.junctions)
    × (has l.seen l.start ≡ true)
    × From l.sense (network_of l.table) (flow_of l.table) l.start l.seen

-- a set that spreads is a larger number
abbrev pub decreases-loop-seen : goal.decreases-loop-seen
decreases-loop-seen l = 2 ^ l.table.junctions - l.seen
