use Rattle.std.proofs.Common.{◌≡◌, take}
use Rattle.network.specs.Pipes.{network_of, flow_of}
use Rattle.interface.specs.Verdicts.{patterned}
use Rattle.augmenting.proofs.rows.set_valves.Given as goal

abbrev pub invariant-loop-k : goal.invariant-loop-k
invariant-loop-k l = (network_of l.table ≡ patterned (network_of l.initial.table) (take l.k l.letters)) × (flow_of l.table ≡ flow_of l.initial.table)
