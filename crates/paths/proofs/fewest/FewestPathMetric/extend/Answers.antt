use Rattle.std.proofs.Common.{arith}
use Rattle.paths.specs.Widths.{width_means}
use Rattle.paths.proofs.FewRange.{few_range}
use Rattle.paths.proofs.fewest.FewestPathMetric.extend.Goals as goal

pub returns-in_default : goal.returns-in_default
returns-in_default c got light =
    let few = few_range 63 c.in-Path.pipes.0 (width_means c.in-Path.least) (rw c.in-Path.is at got) in
    absurd (omega arith)
