use Rattle.std.proofs.Common.{◌-◌, arith}
use Rattle.paths.proofs.Rounds.{within_more, best_still, best_all}
use Rattle.paths.proofs.search.Search.settle.Goals as goal

pub returns-then-not-sweep-clause-best : goal.returns-then-not-sweep-clause-best
returns-then-not-sweep-clause-best g c =
    let m = g.M.PathMetric in
    let f = c.sweep.ensures in
    best_still m.means m.laws c.args.self.now c.loop-round.invariant.0 f.follows f.done c.if-not-sweep.true

pub loop-round-preserved : goal.loop-round-preserved
loop-round-preserved g c =
    let m = g.M.PathMetric in
    let f = c.sweep.ensures in (
      f.follows.kept,
      λ qs b h k. within_more m.means m.laws c.args.self.now c.loop-round.invariant.0 f.follows f.done (c.loop-round._round - 1) c.loop-round.invariant.1 qs b h (omega arith),
    )

pub returns-clause-best : goal.returns-clause-best
returns-clause-best g c =
    let m = g.M.PathMetric in
    best_all m.means m.laws c.args.self.now c.loop-round.labels (c.loop-round._round - 1) (omega arith) c.loop-round.invariant.1
