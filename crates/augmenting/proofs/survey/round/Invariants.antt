use Rattle.std.proofs.Common.{◌<◌}
use Rattle.network.specs.declared.step.Step.{Step}
use Rattle.network.specs.Pipes.{network_of, flow_of}
use Rattle.augmenting.specs.Closures.{Spread, Crossed}
use Rattle.augmenting.proofs.survey.round.Given as goal

abbrev pub invariant-loop-pipe : goal.invariant-loop-pipe
invariant-loop-pipe l =
    Spread l.sense (network_of l.table) (flow_of l.table) l.seen l.grown
    × ((s : Step) → s.pipe < l.pipe → Crossed l.sense (network_of l.table) (flow_of l.table) l.seen l.grown s)
