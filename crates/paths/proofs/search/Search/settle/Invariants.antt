use Rattle.std.proofs.Common.{◌-◌}
use Rattle.network.specs.Pipes.{network_of, flow_of}
use Rattle.paths.specs.Searches.{Kept, Within}
use Rattle.paths.proofs.search.Search.settle.Given as goal

abbrev pub invariant-loop-round : goal.invariant-loop-round
invariant-loop-round g l =
    let m = g.M.PathMetric in
    Kept (network_of l.self.table.now) (flow_of l.self.table.now) l.self.source m.means m.good m.start m.none m.extended l.labels
    × Within (network_of l.self.table.now) (flow_of l.self.table.now) l.self.source m.means m.good m.start m.none m.extended (l._round - 1) l.labels
