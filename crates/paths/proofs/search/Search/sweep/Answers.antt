use Rattle.paths.proofs.Rounds.{follows_trans, done_more}
use Rattle.paths.proofs.search.Search.sweep.Goals as goal

pub loop-pipe-preserved : goal.loop-pipe-preserved
loop-pipe-preserved g c =
    let m = g.M.PathMetric in
    let f = c.loop-pipe.invariant in
    let h = c.relax_pipe-here.ensures in (
      follows_trans m.means m.laws c.args.self.now f.0 h.follows,
      done_more m.means m.laws c.args.self.now c.requires.labelled f.0 h.follows c.loop-pipe.pipe f.1 h.done,
    )
