use Rattle.paths.proofs.Rounds.{follows_trans, done_both}
use Rattle.paths.proofs.search.Search.relax_pipe.Goals as goal

pub returns-in-Open : goal.returns-in-Open
returns-in-Open g c =
    let m = g.M.PathMetric in
    let f = c.relax-along.ensures in
    let h = c.relax-against.ensures in
    record {
      follows = follows_trans m.means m.laws c.args.self.now f.follows h.follows;
      done = done_both m.means m.laws c.args.self.now c.requires.labelled f.follows h.follows c.args.pipe f.relaxed h.relaxed;
    }
