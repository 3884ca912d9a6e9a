use Rattle.std.proofs.Common.{◌≡◌, ℕ, ◌+◌, ◌*◌, ◌≤◌, [], length, refl, sym, ap, ◌∙◌, subst, arith}
use Rattle.network.specs.Residual.{size}
use Rattle.formats.specs.declared.schedule.TimedPattern.{TimedPattern}
use Rattle.rating.proofs.Stepping.{rated_none, rated_more, step_at, room, step_litres}
use Rattle.rating.proofs.page.Rater.rate_steps.Goals as goal

-- what stands past the end
abbrev none : TimedPattern
none = record { minutes = 0; letters = record { ref_ptr = (0, 0); now = [] } }

pub loop-k-init : goal.loop-k-init
loop-k-init g c = record { rated = rated_none (g.E.Engine.meaning c.args.self.now.engine.now) c.args.page.now; small = omega arith; same_extent = refl; same_engine = refl; same_work = refl }

pub rate_step-value-requires : goal.rate_step-value-requires
rate_step-value-requires g c =
    let sound = step_at c.args.steps.now c.loop-k.k c.args.self.now.extent.pipes none c.loop-k-test.true c.requires.sound in
    let x = c.loop-k.invariant.same_extent in
    record {
      long = sound.long ∙ sym (ap (λ y. y.pipes) x);
      sound = sound.patterned;
      fits = subst (λ (n : ℕ). c.loop-k.k * n + (c.loop-k.self.extent.junctions + c.loop-k.self.extent.pipes + 29) ≤ length c.loop-k.page) (sym c.step_length-length.ensures)
          (subst (λ (n : ℕ). c.loop-k.k * (c.args.self.now.extent.junctions + c.args.self.now.extent.pipes + 29) + n ≤ length c.loop-k.page) (sym (ap (λ y. y.junctions + y.pipes + 29) x))
          (room c.loop-k.k c.args.self.now.extent.steps (c.args.self.now.extent.junctions + c.args.self.now.extent.pipes + 29) (length c.loop-k.page) (omega arith) (omega arith)));
    }

pub overflow_mul-total : goal.overflow_mul-total
overflow_mul-total g c = omega (arith, step_litres c.args.steps.now c.loop-k.k c.args.self.now.extent.pipes none c.rate_step-value.result c.loop-k-test.true c.requires.sound c.rate_step-value.ensures.small)

pub overflow_add-total : goal.overflow_add-total
overflow_add-total g c = omega (arith, step_litres c.args.steps.now c.loop-k.k c.args.self.now.extent.pipes none c.rate_step-value.result c.loop-k-test.true c.requires.sound c.rate_step-value.ensures.small, c.args.self.now.extent.short)

pub loop-k-preserved : goal.loop-k-preserved
loop-k-preserved g c =
    let w = g.E.Engine.meaning c.args.self.now.engine.now in
    let per : c.step_length-length.result ≡ (g.E.Engine.meaning c.args.self.now.engine.now).junctions + size (g.E.Engine.meaning c.args.self.now.engine.now) + 29 = c.step_length-length.ensures ∙ (λ i. c.args.self.now.joined i + c.args.self.now.sized i + 29) in
    record {
      rated = rated_more w c.args.page.now c.args.steps.now c.loop-k.k none c.loop-k-test.true _ _ c.loop-k.page c.rate_step-value.new.page c.loop-k.total c.rate_step-value.result (c.loop-k.k * c.step_length-length.result)
          c.loop-k.invariant.rated c.rate_step-value.ensures.means (ap (λ (n : ℕ). c.loop-k.k * n) per) c.rate_step-value.ensures.written c.rate_step-value.ensures.value;
      small = omega (arith, step_litres c.args.steps.now c.loop-k.k c.args.self.now.extent.pipes none c.rate_step-value.result c.loop-k-test.true c.requires.sound c.rate_step-value.ensures.small);
      same_extent = c.rate_step-value.ensures.same_extent ∙ c.loop-k.invariant.same_extent;
      same_engine = c.rate_step-value.ensures.same_engine ∙ c.loop-k.invariant.same_engine;
      same_work = c.rate_step-value.ensures.same_work ∙ c.loop-k.invariant.same_work;
    }
