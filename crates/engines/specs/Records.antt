-- Pipe records of a table.
use Rattle.std.specs.Prelude.{◌≡◌, ℕ, ◌<◌, ◌≤◌}
use Rattle.network.specs.declared.pipe.Pipe.{Pipe}
use Rattle.network.specs.declared.table.Table.{Table}
use Rattle.network.specs.Pipes.{record_pipe, network_of, flow_of}
use Rattle.network.specs.Residual.{pipe, carried}

-- the record holds pipe k of the table, and what it carries
pub record StandsFor (t : Table) (k : ℕ) (p : Pipe) : Type 0 where
  pub inside : k < t.count
  pub some : 1 ≤ p.limit
  pub few : p.limit ≤ 60000
  pub pipe_is : record_pipe p ≡ pipe (network_of t) k
  pub flow_is : p.flow ≡ carried (flow_of t) k
