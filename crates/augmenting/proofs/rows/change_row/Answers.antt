use Rattle.std.proofs.Common.{List, ap}
use Rattle.network.specs.Network.{Pipe}
use Rattle.augmenting.proofs.ChangedRows.{pipes_after, flows_after}
use Rattle.augmenting.proofs.rows.change_row.Goals as goal

pub returns-clause-network : goal.returns-clause-network
returns-clause-network c =
    let t = c.args.table.now in
    ap (λ (ps : List Pipe). record { junctions = t.junctions; pump = t.pump; outlet = t.outlet; pipes = ps }) (pipes_after t c.args.k c.requires.inside c.args.limit c.args.valve c.args.flow)

pub returns-clause-flow : goal.returns-clause-flow
returns-clause-flow c = flows_after c.args.table.now c.args.k c.requires.inside c.args.limit c.args.valve c.args.flow
