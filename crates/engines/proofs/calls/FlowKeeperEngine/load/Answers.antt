use Rattle.network.specs.Pipes.{network_of, flow_of}
use Rattle.engines.proofs.Working.{works_loaded}
use Rattle.engines.proofs.calls.FlowKeeperEngine.load.Goals as goal

pub returns : goal.returns
returns g c =
    let t = c.args.self.now.settled.table in
    let u = c.restart.new.self.table in
    (cc c.in_ok-table.ensures.0, (c.restart.result.1, works_loaded g.K.Keeping.manner (network_of t) (flow_of t) (network_of u) c.restart.result.1 (flow_of u) c.restart.ensures.count))
