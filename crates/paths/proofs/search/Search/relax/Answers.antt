use Rattle.std.proofs.Common.{inl, inr, arith}
use Rattle.paths.proofs.Tables.{sound, ends_read, weight_read, light_is}
use Rattle.paths.proofs.Relaxing.{range, range_short}
use Rattle.paths.proofs.Steps.{skipped, stepped}
use Rattle.paths.proofs.search.Search.relax.Goals as goal
use Rattle.paths.proofs.search.Search.relax.Goals.{then-amount-eq0-via-then-amount-eq0, then-amount-eq0-via-else-amount-eq0+then-to-self}

pub returns-then-amount-eq0-clause-relaxed : goal.returns-then-amount-eq0-clause-relaxed
returns-then-amount-eq0-clause-relaxed g c =
    let m = g.M.PathMetric in
    skipped m.means m.laws c.args.self.now c.requires.labelled c.args.step c.requires.inside c.head_of-to.ensures c.weight_of-amount.ensures (elim c.then-amount-eq0.branch [
      | then-amount-eq0-via-then-amount-eq0 w ↦ inl w.if-amount-eq0.true
      | then-amount-eq0-via-else-amount-eq0+then-to-self w ↦ inr w.if-to-self.true
    ])

pub improve-requires : goal.improve-requires
improve-requires g c =
    let m = g.M.PathMetric in
    let t = c.args.self.now.table.now in
    let e = ends_read t c.args.step.direction c.args.step.pipe c.requires.inside in
    let l = light_is t c.args.step c.requires.inside in
    let z = weight_read t c.args.step c.requires.inside c.weight_of-amount.result c.weight_of-amount.ensures in
    record {
      inside = omega (arith, c.tail_of.ensures);
      onto = omega (arith, c.head_of-to.ensures);
      light = omega arith;
      known = λ h. range_short m.laws (sound t) c.args.self.now.source c.args.self.now.within c.requires.labelled.kept c.tail_of.result (omega arith);
      told = range m.laws (sound t) c.args.self.now.source c.args.self.now.within c.requires.labelled.kept c.head_of-to.result;
    }

pub returns : goal.returns
returns g c =
    let m = g.M.PathMetric in
    let r = stepped m.means m.laws c.args.self.now c.requires.labelled c.args.step c.requires.inside c.head_of-to.ensures c.weight_of-amount.ensures c.tail_of.ensures c.improve.new.labels c.improve.result c.improve.ensures in
    record { follows = r.0; relaxed = r.1 }
