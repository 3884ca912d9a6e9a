use Rattle.std.proofs.Common.{◌≡◌, map, take}
use Rattle.network.specs.declared.row.Row.{Row}
use Rattle.formats.specs.Spaces.{put_at}
use Rattle.engines.proofs.settled.Settled.read_flow.Given as goal

abbrev pub invariant-loop-k : goal.invariant-loop-k
invariant-loop-k l = l.row ≡ put_at 0 (take l.k (map (λ (r : Row). r.flow) l.pipes)) l.initial.row
