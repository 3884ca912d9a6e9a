use Rattle.std.proofs.Common.{◌≡◌, ◌+◌, ◌-◌, sym, ap, ◌∙◌, arith}
use Rattle.formats.specs.Readers.{rest}
use Rattle.formats.specs.declared.reader.Reader.{Reader}
use Rattle.compare_engines.specs.Scripts.{behind_pipes}
use Rattle.compare_engines.proofs.Passing.{pass_one, pass_none, pass_unended}
use Rattle.compare_engines.proofs.scripts.skip_pipes.Goals as goal

pub returns-then-not-pipe_follows : goal.returns-then-not-pipe_follows
returns-then-not-pipe_follows c = record {
  moved = sym (pass_none (c.args.most - c.loop-passed.passed) _ (rest c.loop-passed.reader) (sym c.if-not-pipe_follows.ensures)) ∙ c.loop-passed.invariant.0;
  same_text = c.loop-passed.invariant.1;
}

pub returns-in_default : goal.returns-in_default
returns-in_default c =
    let e = c.in_default.ensures in
    record {
      moved = ap (λ (r : Reader). (r.lines, rest r)) e.1 ∙ sym (pass_unended (c.args.most - c.loop-passed.passed) _ (rest c.loop-passed.reader) e.0) ∙ c.loop-passed.invariant.0;
      same_text = ap (λ (r : Reader). r.text.now) e.1 ∙ c.loop-passed.invariant.1;
    }

pub loop-passed-preserved : goal.loop-passed-preserved
loop-passed-preserved c =
    let e = c.in-Some.ensures in
    let n : c.args.most - (c.loop-passed.passed + 1) ≡ c.args.most - c.loop-passed.passed - 1 = omega arith in (
      (λ i. behind_pipes (n i) (e.3.counted i) (e.3.left i))
          ∙ pass_one (c.args.most - c.loop-passed.passed) _ (rest c.loop-passed.reader) (omega (arith, c.loop-passed-test.true)) (sym c.if-not-pipe_follows.ensures) e.0 ∙ c.loop-passed.invariant.0,
      e.3.same_text ∙ c.loop-passed.invariant.1,
    )
