use Rattle.std.proofs.Common.{◌≡◌, ◌*◌, ◌≤◌}
use Rattle.network.specs.Pipes.{network_of, flow_of}
use Rattle.interface.specs.Works.{Closings}
use Rattle.augmenting.proofs.greatest_flow.GreatestFlow.close_marked.Given as goal

abbrev pub invariant-loop-k : goal.invariant-loop-k
invariant-loop-k g l =
    let m = g.M.PathMetric in
    (l.self.table.now.count ≡ l.initial.self.table.now.count)
    × Closings m.good m.start m.extended (network_of l.initial.self.table.now) (flow_of l.initial.self.table.now) l.letters l.k (network_of l.self.table.now) l.count (flow_of l.self.table.now)
    × (l.count ≤ l.k * 180000)
    × (l.self.table.ghost_name ≡ l.initial.self.table.ghost_name) × (l.self.labels.ghost_name ≡ l.initial.self.labels.ghost_name)
