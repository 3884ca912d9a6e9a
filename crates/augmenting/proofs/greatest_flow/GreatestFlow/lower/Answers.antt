use Rattle.std.proofs.Common.{sym, refl, ◌∙◌, subst, arith, rules}
use Rattle.network.specs.Changes.{with_limit, with_valve}
use Rattle.network.specs.Flows.{Greatest}
use Rattle.network.specs.Network.{Network}
use Rattle.network.specs.Pipes.{network_of, flow_of}
use Rattle.network.specs.Residual.{pipe}
use Rattle.network.proofs.TableFacts.{table_size, table_wired}
use Rattle.augmenting.proofs.Lowering.{torn_table, lowers_table, lowers_greatest}
use Rattle.augmenting.proofs.greatest_flow.GreatestFlow.lower.Goals as goal

pub mend-requires-clause-torn : goal.mend-requires-clause-torn
mend-requires-clause-torn g c =
    torn_table c.args.self.now.table.now c.args.k c.requires.inside c.args.limit c.args.valve c.args.keep c.change_row.new.table c.change_row.ensures.network c.change_row.ensures.flow
    c.args.self.now.greatest c.requires.less c.requires.within

pub invariant_of-self-clause-places : goal.invariant_of-self-clause-places
invariant_of-self-clause-places g c = search rules

pub invariant_of-self-clause-greatest : goal.invariant_of-self-clause-greatest
invariant_of-self-clause-greatest g c =
    let t = c.args.self.now.table.now in
    let k = c.args.k in
    let u = c.change_row.new.table in
    let v = c.mend.new.self.table.now in
    subst (λ (w : Network). Greatest w (flow_of v)) (sym (c.mend.ensures.same ∙ c.change_row.ensures.network))
    (lowers_greatest (network_of t) (table_wired t) k (omega (arith, table_size t, c.requires.inside)) (with_valve (with_limit (pipe (network_of t) k) c.args.limit) c.args.valve) refl refl
    (flow_of t) c.args.self.now.greatest c.args.keep c.requires.less c.requires.within c.requires.lower c.mend.result (flow_of v)
    (lowers_table t k c.requires.inside c.args.limit c.args.valve c.args.keep u c.change_row.ensures.network c.change_row.ensures.flow c.mend.result (flow_of v) c.mend.ensures.mends))

pub returns-clause-lowers : goal.returns-clause-lowers
returns-clause-lowers g c =
    lowers_table c.args.self.now.table.now c.args.k c.requires.inside c.args.limit c.args.valve c.args.keep c.change_row.new.table c.change_row.ensures.network c.change_row.ensures.flow
    c.mend.result (flow_of c.mend.new.self.table.now) c.mend.ensures.mends
