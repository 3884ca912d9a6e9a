use Rattle.std.proofs.Common.{◌≡◌, sym, ap, ◌∙◌, arith, rules}
use Rattle.network.specs.Pipes.{network_of, flow_of}
use Rattle.interface.specs.Verdicts.{change}
use Rattle.engines.proofs.Taking.{greatest_back}
use Rattle.engines.proofs.Working.{keeps_all, fillable_with, fills_as, to_limit, own_flow, works_limited}
use Rattle.engines.proofs.warm.WarmKeeping.limit.Goals as goal

pub refill-requires : goal.refill-requires
refill-requires g c =
    let e = c.args.settled.now in
    let old = c.args.old in
    let few = c.change_row.new.table.most in
    let h = fillable_with e.table c.args.pipe old c.requires.stands e.greatest c.args.limit old.valve (keeps_all old.valve old.limit old.flow c.args.limit old.within c.if-limit-old.false) c.change_row.new.table c.change_row.ensures.network c.change_row.ensures.flow in
    record { places = omega (arith, c.requires.places); flow = h.flow; forth = h.forth }

pub returns-else-limit-old : goal.returns-else-limit-old
returns-else-limit-old g c =
    let t = c.args.settled.now.table in
    let s = c.requires.stands in
    let becomes = c.change_row.ensures.network ∙ to_limit t c.args.pipe c.args.old s c.args.limit in
    record {
      network = c.refill.ensures.same ∙ becomes;
      changes = c.refill.ensures.change ∙ ap (change (network_of t)) (sym c.refill.ensures.same);
      works = works_limited (network_of t) (flow_of t) c.args.pipe c.args.limit _ _ (omega (arith, s.flow_is, c.if-limit-old.false))
          (fills_as becomes (c.change_row.ensures.flow ∙ own_flow t c.args.pipe c.args.old s) c.refill.ensures.count);
    }

pub replace-requires : goal.replace-requires
replace-requires g c =
    let u = c.lower-count.new.self.table.now in
    greatest_back _ _ (network_of u) (flow_of u) (search rules) (search rules) c.lower-count.new.self.greatest

pub returns-then-limit-old : goal.returns-then-limit-old
returns-then-limit-old g c =
    let back : c.replace.new.self.table ≡ c.lower-count.new.self.table.now = search rules in
    rw back (record {
      network = search rules;
      changes = search rules;
      works = search rules;
    })
