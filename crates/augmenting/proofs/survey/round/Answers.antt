use Rattle.network.specs.Pipes.{network_of, flow_of}
use Rattle.augmenting.proofs.Closures.{spread_more, crossed_more}
use Rattle.augmenting.proofs.survey.round.Goals as goal

pub loop-pipe-preserved : goal.loop-pipe-preserved
loop-pipe-preserved c =
    let w = network_of c.args.table.now in
    let f = flow_of c.args.table.now in
    let x = c.cross-half.ensures in
    let y = c.cross-grown.ensures in (
      spread_more c.args.sense w f c.args.seen c.loop-pipe.grown c.cross-half.result c.cross-grown.result c.loop-pipe.pipe c.loop-pipe.invariant.0 x.spread y.spread x.crossed y.crossed,
      crossed_more c.args.sense w f c.args.seen c.loop-pipe.grown c.cross-half.result c.cross-grown.result c.loop-pipe.pipe c.loop-pipe.invariant.0 x.spread y.spread x.crossed y.crossed c.loop-pipe.invariant.1,
    )
