use Rattle.std.proofs.Common.{rules}
use Rattle.writing.proofs.PageLines.{sides_by}
use Rattle.writing.proofs.page.put_sides.Goals as goal

pub returns : goal.returns
returns c = sides_by c.args.report.now _ _ c.put_letters.ensures.long (λ k h. search (rules, c.put_letters.ensures.lettered k h))
