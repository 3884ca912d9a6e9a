use Rattle.std.proofs.Common.{◌≡◌, ℕ, ◌<◌}
use Rattle.network.specs.Pipes.{network_of, flow_of}
use Rattle.network.specs.Residual.{carried}
use Rattle.augmenting.proofs.rows.dry_out.Given as goal

abbrev pub invariant-loop-pipe : goal.invariant-loop-pipe
invariant-loop-pipe l = (network_of l.table ≡ network_of l.initial.table) × ((i : ℕ) → i < l.pipe → carried (flow_of l.table) i ≡ 0)
