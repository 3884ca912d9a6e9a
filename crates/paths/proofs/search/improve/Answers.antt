use Rattle.std.proofs.Common.{◌≡◌, ℕ, suc, ◌+◌, true, false, set, Some, refl, ap, inr, arith}
use Rattle.std.proofs.lemmas.Bool.{false≢true}
use Rattle.paths.specs.Searches.{steps_at}
use Rattle.paths.proofs.Labels.{at_read, tried}
use Rattle.paths.proofs.search.improve.Goals as goal

pub returns-then-at_least : goal.returns-then-at_least
returns-then-at_least g c =
    let m = g.M.PathMetric in
    let t = tried m.means m.laws c.args.labels.now c.args.from c.args.to c.args.amount c.index-labels-to.result c.extend-length.result true c.requires.inside c.requires.onto c.index-labels-from.is c.if-label-labels.false c.requires.known c.requires.told c.requires.light c.extend-length.ensures c.if-at_least.ensures in
    (inr (t.1.0 refl), refl {a = c.args.labels.now})

pub returns-else-at_least : goal.returns-else-at_least
returns-else-at_least g c =
    let m = g.M.PathMetric in
    let t = tried m.means m.laws c.args.labels.now c.args.from c.args.to c.args.amount c.index-labels-to.result c.extend-length.result false c.requires.inside c.requires.onto c.index-labels-from.is c.if-label-labels.false c.requires.known c.requires.told c.requires.light c.extend-length.ensures c.if-at_least.ensures in
    let e = at_read (λ l. l.steps) 0 c.args.labels.now c.args.from c.index-labels-from.result c.requires.inside c.index-labels-from.is in
    let q : c.index-labels-from.result.steps + 1 ≡ suc (steps_at c.args.labels.now c.args.from) = omega arith in (
      (λ k. false≢true (t.1.1 k)),
      (c.extend-length.result, t.0, ap (λ (n : ℕ). set c.args.labels.now c.args.to (record { length = c.extend-length.result; steps = n; via = Some c.args.step })) q),
    )
