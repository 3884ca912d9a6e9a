use Rattle.std.proofs.Common.{◌≡◌, min, length, arith}
use Rattle.std.proofs.lemmas.Bool.Decides.{Decides-eqb}
use Rattle.std.proofs.lemmas.Slice.Eq.{slice_eq-Decides}
use Rattle.compare_engines.proofs.Agreeing.{behind}
use Rattle.compare_engines.proofs.agree.equal_behind.Goals as goal

pub returns : goal.returns
returns c =
    let start : c.min-start.result ≡ min c.args.n (length c.args.row.now) = omega (arith, c.min-start.ensures) in
    let long : length c.args.row.now ≡ length c.args.other.now = omega (arith, c.if-row-other.false) in
    behind c.eq.result c.args.n c.min-start.result c.args.row.now c.args.other.now start long (slice_eq-Decides Decides-eqb _ _ _ c.eq.ensures)
