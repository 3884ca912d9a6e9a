use Rattle.std.proofs.Common.{arith}
use Rattle.paths.proofs.Labels.{blank_set}
use Rattle.paths.proofs.search.reset.Goals as goal

pub returns : goal.returns
returns g c =
    let m = g.M.PathMetric in
    blank_set m.means m.start m.none c.loop-label.labels c.unreached-unreached.result (record { length = c.no_pipe.result; steps = c.unreached-unreached.result.steps; via = c.unreached-unreached.result.via }) c.args.source (omega arith)
    (λ k h. c.loop-label.invariant k (omega arith)) c.unreached-unreached.ensures.length c.unreached-unreached.ensures.steps c.unreached-unreached.ensures.via c.no_pipe.ensures c.unreached-unreached.ensures.steps c.unreached-unreached.ensures.via
