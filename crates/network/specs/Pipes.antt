-- What rows and tables stand for: pipe records, a network, the flow on it.
use Rattle.std.specs.Prelude.{◌≡◌, ℕ, List, map, take}
use Rattle.network.specs.declared.row.Row.{Row}
use Rattle.network.specs.declared.table.Table.{Table}
use Rattle.network.specs.declared.pipe.Pipe as pipe-record
use Rattle.network.specs.Network.{Pipe, Network}

-- a pipe record holds what the row holds
abbrev pub same_row : pipe-record.Pipe → Row → Type 0
same_row p r = (p.from ≡ r.from) × (p.to ≡ r.to) × (p.limit ≡ r.limit) × (p.flow ≡ r.flow) × (p.valve ≡ r.valve)

-- the pipe that a record stands for
abbrev pub record_pipe : pipe-record.Pipe → Pipe
record_pipe p = record { from = p.from; to = p.to; limit = p.limit; valve = p.valve }

abbrev pub pipe_of : Row → Pipe
pipe_of r = record { from = r.from; to = r.to; limit = r.limit; valve = r.valve }

-- the network of a table
abbrev pub network_of : Table → Network
network_of t = record { junctions = t.junctions; pump = t.pump; outlet = t.outlet; pipes = map pipe_of (take t.count t.rows) }

-- and the flow on it, a number for each pipe
abbrev pub flow_of : Table → List ℕ
flow_of t = map (λ (r : Row). r.flow) (take t.count t.rows)
