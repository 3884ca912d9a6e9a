use Rattle.std.proofs.Common.{◌≡◌, ℕ, ◌-◌, ◌^◌, sym, subst}
use Rattle.network.specs.declared.step.Direction.TheVariants.{Against}
use Rattle.network.specs.declared.table.Table.{Table}
use Rattle.network.specs.Pipes.{network_of, flow_of}
use Rattle.network.specs.Reaches.{Apart}
use Rattle.augmenting.specs.Closures.{Closure}
use Rattle.augmenting.proofs.Closures.{closure_reached}
use Rattle.augmenting.proofs.Surveys.{closure_apart, surveyed}
use Rattle.network.proofs.TableFacts.{table_wired}
use Rattle.augmenting.proofs.survey.report.Goals as goal

-- the junctions that are left
far_is : (t : Table) (all from : ℕ) → all ≡ 2 ^ t.junctions - 1 → Closure Against (network_of t) (flow_of t) t.outlet from → Apart (network_of t) (flow_of t) t.outlet (all - from)
far_is t all from e closure = subst (λ (x : ℕ). Apart (network_of t) (flow_of t) t.outlet (x - from)) (sym e) (closure_apart (network_of t) (flow_of t) t.outlet from closure)

pub returns-clause-far : goal.returns-clause-far
returns-clause-far c = far_is c.args.table.now c.all_junctions.result c.reached-reaching.result c.all_junctions.ensures c.reached-reaching.ensures

pub returns-clause-whole : goal.returns-clause-whole
returns-clause-whole c =
    let t = c.args.table.now in
    let w = network_of t in
    let f = flow_of t in
    surveyed w (table_wired t) f c.value.result c.reached.result (c.all_junctions.result - c.reached-reaching.result) c.value.ensures (closure_reached w f t.pump c.reached.result c.reached.ensures)
    (far_is t c.all_junctions.result c.reached-reaching.result c.all_junctions.ensures c.reached-reaching.ensures)
