use Rattle.std.proofs.Common.{◌≡◌, ◌+◌, length, sym, ap, ◌∙◌, arith}
use Rattle.network.specs.declared.report.Report.{Report}
use Rattle.network.specs.Network.{Network}
use Rattle.network.specs.Residual.{size}
use Rattle.network.proofs.Enumerated.{value_small}
use Rattle.formats.specs.Pages.{rate_line}
use Rattle.formats.specs.Spaces.{put_at}
use Rattle.writing.proofs.PageLines.{rate_length}
use Rattle.rating.specs.Pages.{step_lines}
use Rattle.rating.proofs.Lengths.{lettered_length}
use Rattle.rating.proofs.Unrefused.{pattern_ok, reported}
use Rattle.rating.proofs.Writing.{lines_done}
use Rattle.rating.proofs.page.Rater.rate_step.Goals as goal

pub invariant_of-self : goal.invariant_of-self
invariant_of-self g c =
    let w = g.E.Engine.meaning c.args.self.now.engine.now in
    let is = pattern_ok _ _ w (g.E.Engine.meaning c.pattern.new.self) c.args.letters.now (simp c.unwrap.ensures at c.pattern.ensures).0 in
    record {
      placed = omega arith;
      joined = c.args.self.now.joined ∙ sym (ap (λ (u : Network). u.junctions) is);
      sized = c.args.self.now.sized ∙ sym (ap size is ∙ lettered_length c.args.letters.now w.pipes);
    }

pub returns-clause-written : goal.returns-clause-written
returns-clause-written g c =
    let w = g.E.Engine.meaning c.args.self.now.engine.now in
    let is = pattern_ok _ _ w (g.E.Engine.meaning c.pattern.new.self) c.args.letters.now (simp c.unwrap.ensures at c.pattern.ensures).0 in
    let u = g.E.Engine.meaning c.pattern.new.self in
    let j = c.args.self.now.extent.junctions in
    let report = reported g.E.Engine.MOST_JUNCTIONS (length c.pattern.new.work) u c.report.result c.unwrap-report.result (omega arith) c.report.ensures.answer c.unwrap-report.ensures in
    let joined = c.args.self.now.joined ∙ sym (ap (λ (v : Network). v.junctions) is) in
    let sized = c.args.self.now.sized ∙ sym (ap size is ∙ lettered_length c.args.letters.now w.pipes) in
    let next : c.args.at + c.args.self.now.extent.junctions + 19 ≡ c.args.at + length (rate_line c.args.step c.unwrap-report.result c.args.self.now.extent.junctions) = omega (arith, rate_length c.args.step c.unwrap-report.result c.args.self.now.extent.junctions) in
    lines_done c.args.page.now c.args.at (omega arith) c.put_rate.new.space c.put_governing.new.space c.args.step (c.args.at + j + 19) u c.unwrap-report.result j c.args.self.now.extent.pipes c.ask_governing.new.marks report joined
    sized c.ask_governing.ensures.row next c.put_rate.ensures c.put_governing.ensures
    ∙ ap (λ (v : Network). put_at c.args.at (step_lines c.args.step v) c.args.page.now) is

pub returns-clause-small : goal.returns-clause-small
returns-clause-small g c =
    let u = g.E.Engine.meaning c.pattern.new.self in
    let report = reported g.E.Engine.MOST_JUNCTIONS (length c.pattern.new.work) u c.report.result c.unwrap-report.result (omega arith) c.report.ensures.answer c.unwrap-report.ensures in
    omega (arith, ap (λ (r : Report). r.value) report, value_small u (g.met.E.Engine.sound c.pattern.new.self).0)
