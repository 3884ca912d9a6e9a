use Rattle.std.proofs.Common.{sym, ◌∙◌, arith}
use Rattle.std.proofs.lemmas.Bool.{le-ltb}
use Rattle.network.proofs.Words.{has_beyond}
use Rattle.network.proofs.sets.holds.Goals as goal

pub returns-else-k-lt64 : goal.returns-else-k-lt64
returns-else-k-lt64 c = le-ltb _ _ c.if-k-lt64.false ∙ sym (has_beyond 64 c.args.set c.args.k (omega arith) c.if-k-lt64.false)
