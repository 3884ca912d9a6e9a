use Rattle.network.specs.Pipes.{network_of, flow_of}
use Rattle.network.proofs.Greatest.{no_path}
use Rattle.network.proofs.TableFacts.{table_wired}
use Rattle.engines.proofs.settled.Settled.from_table.Goals as goal

pub invariant_of-result : goal.invariant_of-result
invariant_of-result c =
    let t = c.args.table.now in
    record { greatest = c.requires; reported = c.report-report.ensures.whole c.requires.flow (no_path (network_of t) (table_wired t) (flow_of t) c.requires) }
