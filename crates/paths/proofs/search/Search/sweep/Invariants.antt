use Rattle.std.proofs.Common.{◌<◌}
use Rattle.network.specs.Pipes.{network_of, flow_of}
use Rattle.paths.specs.Searches.{Follows, Done}
use Rattle.paths.proofs.search.Search.sweep.Given as goal

abbrev pub invariant-loop-pipe : goal.invariant-loop-pipe
invariant-loop-pipe g l =
    let m = g.M.PathMetric in
    Follows (network_of l.self.table.now) (flow_of l.self.table.now) l.self.source m.means m.good m.start m.none m.extended l.initial.labels l.labels l.changed
    × Done (network_of l.self.table.now) (flow_of l.self.table.now) m.means m.good m.none m.extended l.initial.labels l.labels (λ j. j < l.pipe)
