use Rattle.std.proofs.Common.{sym, refl, ap, ◌∙◌, arith, w64, SFits, rules}
use Rattle.std.proofs.lemmas.Int.{to_z-of_z}
use Rattle.network.specs.Pipes.{network_of, flow_of}
use Rattle.interface.specs.Verdicts.{change}
use Rattle.engines.proofs.Marked.{all_closings, closed_count, closed_dry, closed_set}
use Rattle.engines.proofs.Taking.{dry_back, set_back}
use Rattle.engines.proofs.Working.{fillable_set, fills_as}
use Rattle.engines.proofs.warm.WarmKeeping.pattern.Goals as goal

pub set_valves-requires : goal.set_valves-requires
set_valves-requires g c =
    let t = c.args.settled.now.table in
    let u = c.close_marked-closing.new.self.table.now in
    let bs = c.args.letters.now in
    let closings = rw c.to_mend.ensures.table at c.close_marked-closing.ensures.closings in
    record {
      long = ◌∙◌ {b = u.count} (c.requires.long ∙ closed_count t u bs _ closings) (search rules);
      dry = λ k q. dry_back _ (flow_of u) k (search rules) (closed_dry t u bs _ closings c.requires.long k q);
    }

pub refill-change-requires : goal.refill-change-requires
refill-change-requires g c =
    let u = c.close_marked-closing.new.self.table.now in
    let few = c.set_valves.new.table.most in
    let set = set_back _ _ (network_of u) c.args.letters.now c.set_valves.ensures.network (search rules) in
    let h = fillable_set u c.set_valves.new.table c.args.letters.now c.close_marked-closing.new.self.greatest set (c.set_valves.ensures.flow ∙ search rules) in
    record { places = omega (arith, c.requires.places); flow = h.flow; forth = h.forth }

pub returns : goal.returns
returns g c =
    let t = c.args.settled.now.table in
    let u = c.close_marked-closing.new.self.table.now in
    let bs = c.args.letters.now in
    let closings = rw c.to_mend.ensures.table at c.close_marked-closing.ensures.closings in
    let fits : SFits w64 c.refill-change.result.0 = search rules in
    let becomes = set_back _ _ (network_of u) bs c.set_valves.ensures.network (search rules) ∙ closed_set t u bs _ closings in
    record {
      network = c.refill-change.ensures.same ∙ becomes;
      changes = to_z-of_z w64 c.refill-change.result.0 fits ∙ c.refill-change.ensures.change ∙ ap (change (network_of t)) (sym c.refill-change.ensures.same);
      works = record {
        shut = network_of u;
        mended = flow_of u;
        closing_count = c.close_marked-closing.result;
        filling_count = c.refill-change.result.1;
        closes = all_closings t u bs _ closings;
        opens = fills_as {f = flow_of c.set_valves.new.table} {g = flow_of u} becomes (c.set_valves.ensures.flow ∙ search rules) c.refill-change.ensures.count;
        counts = refl;
      };
    }
