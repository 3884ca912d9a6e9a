use Rattle.std.proofs.Common.{◌≡◌, ◌+◌, ◌≤◌}
use Rattle.network.specs.Pipes.{network_of, flow_of}
use Rattle.interface.specs.Augmentations.{Leads}
use Rattle.augmenting.proofs.augmenter.Augmenter.lead.Given as goal

abbrev pub invariant-loop-rest : goal.invariant-loop-rest
invariant-loop-rest g l =
    let m = g.M.PathMetric in
    let w = network_of l.initial.self.table.now in
    (network_of l.self.table.now ≡ w) × Leads w m.good m.start m.extended l.source l.goal l.amount (flow_of l.initial.self.table.now) l.count l.rest (flow_of l.self.table.now) × (l.count + l.rest ≤ l.amount)
    × (l.self.table.ghost_name ≡ l.initial.self.table.ghost_name) × (l.self.labels.ghost_name ≡ l.initial.self.labels.ghost_name)

abbrev pub decreases-loop-rest : goal.decreases-loop-rest
decreases-loop-rest g l = l.rest
