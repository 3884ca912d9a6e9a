use Rattle.std.proofs.Common.{◌≡◌, ℕ, ◌+◌, ◌≤◌, sym, refl, ap, ◌∙◌, subst, add-one, arith}
use Rattle.network.specs.declared.table.Table.{Table}
use Rattle.network.specs.Network.{Network}
use Rattle.network.specs.Flows.{inflow, outflow}
use Rattle.network.specs.Pipes.{network_of, flow_of}
use Rattle.interface.specs.Augmentations.{Augments, Fills, begun, more}
use Rattle.augmenting.proofs.Bounds.{nearer, one_more}
use Rattle.augmenting.proofs.Passing.{passing_most}
use Rattle.network.specs.declared.step.Direction.TheVariants.{Along}
use Rattle.network.proofs.TableFacts.{table_wired}
use Rattle.augmenting.proofs.Weights.{augmented_flow}
use Rattle.augmenting.proofs.augmenter.Augmenter.fill.Goals as goal

pub loop-count-init : goal.loop-count-init
loop-count-init g c = (refl, c.requires.flow, begun, omega (arith, c.requires.forth), refl, refl)

-- each augmentation brings a litre more
few : (t u : Table) (n : ℕ) → network_of u ≡ network_of t → n + inflow (network_of t) (flow_of u) t.pump ≤ outflow (network_of t) (flow_of u) t.pump → n ≤ 30720000
few t u n e h = omega (arith, ap (λ (w : Network). outflow w (flow_of u) t.pump) e, passing_most u Along t.pump)

pub overflow_add-count : goal.overflow_add-count
overflow_add-count g c = omega (arith, few c.args.self.now.table.now c.loop-count.self.table.now c.loop-count.count c.loop-count.invariant.0 c.loop-count.invariant.3)

pub loop-count-smaller : goal.loop-count-smaller
loop-count-smaller g c =
    let m = g.M.PathMetric in
    let t = c.args.self.now.table.now in
    let f = flow_of c.loop-count.self.table.now in
    let h = flow_of c.augment.new.self.table.now in
    let aug = subst (λ (w : Network). Augments w m.good m.start m.extended t.pump t.outlet 60000 f c.in-Some.field-0 h) c.loop-count.invariant.0 c.in-Some.ensures.answer in
    nearer (network_of t) (table_wired t) 60000 f c.in-Some.field-0 h aug c.loop-count.invariant.1

pub loop-count-preserved : goal.loop-count-preserved
loop-count-preserved g c =
    let m = g.M.PathMetric in
    let t = c.args.self.now.table.now in
    let f = flow_of c.loop-count.self.table.now in
    let h = flow_of c.augment.new.self.table.now in
    let aug = subst (λ (w : Network). Augments w m.good m.start m.extended t.pump t.outlet 60000 f c.in-Some.field-0 h) c.loop-count.invariant.0 c.in-Some.ensures.answer in (
      c.in-Some.ensures.same ∙ c.loop-count.invariant.0,
      augmented_flow (network_of t) (table_wired t) 60000 f c.in-Some.field-0 h aug c.loop-count.invariant.1,
      subst (λ (n : ℕ). Fills (network_of t) m.good m.start m.extended (flow_of t) n h) (sym (add-one c.loop-count.count)) (more c.loop-count.invariant.2 aug),
      one_more (network_of t) (table_wired t) 60000 f c.in-Some.field-0 h aug c.loop-count.invariant.1 c.loop-count.count c.loop-count.invariant.3,
      c.in-Some.ensures.same_table ∙ c.loop-count.invariant.4,
      c.in-Some.ensures.same_labels ∙ c.loop-count.invariant.5,
    )

pub returns-clause-few : goal.returns-clause-few
returns-clause-few g c = few c.args.self.now.table.now c.loop-count.self.table.now c.loop-count.count c.loop-count.invariant.0 c.loop-count.invariant.3
