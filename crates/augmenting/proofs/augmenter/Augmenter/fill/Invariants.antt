use Rattle.std.proofs.Common.{◌≡◌, ◌+◌, ◌-◌, ◌≤◌}
use Rattle.network.specs.Flows.{Flow, outflow, inflow}
use Rattle.network.specs.Pipes.{network_of, flow_of}
use Rattle.network.specs.Reports.{least_capacity}
use Rattle.interface.specs.Augmentations.{Fills}
use Rattle.augmenting.proofs.augmenter.Augmenter.fill.Given as goal

abbrev pub invariant-loop-count : goal.invariant-loop-count
invariant-loop-count g l =
    let m = g.M.PathMetric in
    let w = network_of l.initial.self.table.now in
    (network_of l.self.table.now ≡ w)
    × Flow w (flow_of l.self.table.now)
    × Fills w m.good m.start m.extended (flow_of l.initial.self.table.now) l.count (flow_of l.self.table.now)
    × (l.count + inflow w (flow_of l.self.table.now) w.pump ≤ outflow w (flow_of l.self.table.now) w.pump)
    × (l.self.table.ghost_name ≡ l.initial.self.table.ghost_name) × (l.self.labels.ghost_name ≡ l.initial.self.labels.ghost_name)

abbrev pub decreases-loop-count : goal.decreases-loop-count
decreases-loop-count g l =
    let w = network_of l.initial.self.table.now in
    least_capacity w + inflow w (flow_of l.self.table.now) w.pump - outflow w (flow_of l.self.table.now) w.pump
