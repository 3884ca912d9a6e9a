use Rattle.std.proofs.Common.{◌-◌, drop, arith}
use Rattle.network.specs.Pipes.{network_of, flow_of}
use Rattle.paths.proofs.Parts.{answer_part}
use Rattle.paths.proofs.search.best_path.Goals as goal

pub returns-clause-answer : goal.returns-clause-answer
returns-clause-answer g c =
    let m = g.M.PathMetric in
    let t = c.args.table.now in
    answer_part c.run.new.labels (drop (t.junctions - 0) c.args.labels.now) (network_of t) (flow_of t) c.args.source c.args.goal m.means m.good m.start m.extended (omega arith) (omega arith) c.run.result c.run.ensures
