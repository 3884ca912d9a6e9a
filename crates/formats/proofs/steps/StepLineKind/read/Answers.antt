use Rattle.std.proofs.lemmas.List.{take_rest}
use Rattle.std.proofs.lemmas.Result.{err_from_is_err_and}
use Rattle.formats.proofs.StepLines.{step_bad, step_good}
use Rattle.formats.proofs.steps.StepLineKind.read.Goals as goal

pub returns-in_err-check_pattern : goal.returns-in_err-check_pattern
returns-in_err-check_pattern c =
    let p = err_from_is_err_and c.from_residual-in_err-check_pattern.result c.from_residual-in_err-check_pattern.ensures.1 in
    rw (p.1, p.2)
    (step_bad c.args.line.now.number c.args.line.now.bytes.now _ _ c.in_ok-minutes.ensures.is (take_rest c.args.line.now.bytes.now 9) _ c.in_err-check_pattern.ensures)

pub returns : goal.returns
returns c =
    step_good c.args.line.now.number c.args.line.now.bytes.now _ _ c.in_ok-minutes.ensures.is (take_rest c.args.line.now.bytes.now 9)
    c.args.self.now.pipes c.in_ok-minutes.ensures.within.0 c.in_ok-minutes.ensures.within.1 c.requires c.in_ok-check_pattern.ensures
