use Rattle.std.proofs.Common.{sym, refl, arith}
use Rattle.writing.proofs.Puts.{put_none}
use Rattle.engines.proofs.Reading.{read_fits, read_short, read_more, read_all}
use Rattle.engines.proofs.settled.Settled.read_flow.Goals as goal

pub returns-then-row-pipes : goal.returns-then-row-pipes
returns-then-row-pipes c = (read_short c.pipe_rows-pipes.result.now c.args.row.now c.args.self.now.table c.pipe_rows-pipes.ensures c.if-row-pipes.true, refl)

pub loop-k-init : goal.loop-k-init
loop-k-init c = sym (put_none c.args.row.now 0 (omega arith))

pub loop-k-preserved : goal.loop-k-preserved
loop-k-preserved c = read_more c.pipe_rows-pipes.result.now c.args.row.now c.loop-k.k c.loop-k.row c.loop-k-test.true c.if-row-pipes.false c.loop-k.invariant

pub returns : goal.returns
returns c =
    let ps = c.pipe_rows-pipes.result.now in
    let t = c.args.self.now.table in
    let e = c.pipe_rows-pipes.ensures in
    (read_fits ps c.args.row.now t e c.if-row-pipes.false, read_all ps c.args.row.now t e c.loop-k.k c.loop-k.row c.loop-k-test.false c.loop-k.invariant)
