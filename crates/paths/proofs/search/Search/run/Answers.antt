use Rattle.std.proofs.Common.{true, false, refl, arith}
use Rattle.paths.proofs.Rounds.{kept_blank, within_blank, answer_none, answer_some}
use Rattle.paths.proofs.search.Search.run.Goals as goal

pub settle-requires : goal.settle-requires
settle-requires g c =
    let m = g.M.PathMetric in
    record {
      labelled = record { wide = omega arith; kept = kept_blank m.means m.laws c.args.self.now c.reset.ensures };
      begun = within_blank m.means m.laws c.args.self.now c.reset.ensures;
    }

pub returns-then-at_least : goal.returns-then-at_least
returns-then-at_least g c =
    let m = g.M.PathMetric in
    answer_none m.means m.laws c.args.self.now c.settle.new.labels c.settle.ensures.kept c.settle.ensures.best c.args.goal (omega arith) c.index-labels-goal.is c.no_way.result c.no_way.ensures true c.if-at_least.ensures refl

pub returns-else-at_least : goal.returns-else-at_least
returns-else-at_least g c =
    let m = g.M.PathMetric in
    answer_some m.means m.laws c.args.self.now c.settle.new.labels c.settle.ensures.kept c.settle.ensures.best c.args.goal (omega arith) c.index-labels-goal.is c.no_way.result c.no_way.ensures false c.if-at_least.ensures refl
