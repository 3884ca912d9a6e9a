use Rattle.std.proofs.Common.{sym, subst, rules}
use Rattle.network.specs.Flows.{Greatest}
use Rattle.network.specs.Network.{Network}
use Rattle.network.specs.Pipes.{network_of, flow_of}
use Rattle.network.proofs.Greatest.{path_greatest}
use Rattle.network.proofs.TableFacts.{table_wired}
use Rattle.engines.proofs.Taking.{greatest_back}
use Rattle.engines.proofs.settled.Settled.refill.Goals as goal

pub replace-requires : goal.replace-requires
replace-requires g c =
    let t = c.args.table.now in
    let u = c.fill-count.new.self.table.now in
    greatest_back _ _ (network_of u) (flow_of u) (search rules) (search rules) (subst (λ (w : Network). Greatest w (flow_of u)) (sym c.fill-count.ensures.same) (path_greatest (network_of t) (table_wired t) (flow_of u) c.fill-count.ensures.flow c.fill-count.ensures.done))
