use Rattle.std.proofs.Common.{ℕ, ◌-◌, sym, refl, ◌∙◌, subst, add-one, arith}
use Rattle.network.specs.Network.{Network}
use Rattle.network.specs.Pipes.{network_of, flow_of}
use Rattle.interface.specs.Augmentations.{Augments, Leads, none_led, some_led}
use Rattle.augmenting.proofs.Weights.{augmented_most}
use Rattle.augmenting.proofs.augmenter.Augmenter.lead.Goals as goal

pub loop-rest-init : goal.loop-rest-init
loop-rest-init g c = (refl, none_led, omega arith, refl, refl)

pub overflow_sub-rest : goal.overflow_sub-rest
overflow_sub-rest g c =
    augmented_most (network_of c.loop-rest.self.table.now) c.args.source c.args.goal c.loop-rest.rest (flow_of c.loop-rest.self.table.now) c.in-Some.led (flow_of c.augment.new.self.table.now) c.in-Some.ensures.answer

pub loop-rest-preserved : goal.loop-rest-preserved
loop-rest-preserved g c =
    let m = g.M.PathMetric in
    let t = c.args.self.now.table.now in
    let h = flow_of c.augment.new.self.table.now in
    let aug = subst (λ (w : Network). Augments w m.good m.start m.extended c.args.source c.args.goal c.loop-rest.rest (flow_of c.loop-rest.self.table.now) c.in-Some.led h) c.loop-rest.invariant.0 c.in-Some.ensures.answer in (
      c.in-Some.ensures.same ∙ c.loop-rest.invariant.0,
      subst (λ (n : ℕ). Leads (network_of t) m.good m.start m.extended c.args.source c.args.goal c.args.amount (flow_of t) n (c.loop-rest.rest - c.in-Some.led) h) (sym (add-one c.loop-rest.count)) (some_led c.loop-rest.invariant.1 aug),
      omega (arith, c.loop-rest.invariant.2, aug.some),
      c.in-Some.ensures.same_table ∙ c.loop-rest.invariant.3,
      c.in-Some.ensures.same_labels ∙ c.loop-rest.invariant.4,
    )
