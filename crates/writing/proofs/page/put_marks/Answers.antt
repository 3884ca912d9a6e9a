use Rattle.std.proofs.Common.{rules, arith}
use Rattle.writing.proofs.PageLines.{marks_by}
use Rattle.writing.proofs.page.put_marks.Goals as goal

pub returns : goal.returns
returns c = marks_by c.args.marks.now _ (omega (arith, c.put_letters.ensures.long)) (λ k h. search (rules, c.put_letters.ensures.lettered k (omega arith)))
