-- A network: junctions joined by pipes with limits and valves.
use Rattle.std.specs.Prelude.{ℕ, ◌<◌, ◌≤◌, ◌≢◌, List, [], length}
use Rattle.std.specs.List.{AllByRecursion}
use Rattle.network.specs.declared.valve.Valve.{Valve}

-- A pipe leads from one junction to another, and lets through at most its limit, in litres a minute, while its valve is open.
pub record Pipe : Type 0 where
  pub from : ℕ
  pub to : ℕ
  pub limit : ℕ
  pub valve : Valve

-- Junctions are numbered from 0, pipes by their place in the list. Pump and outlet are the source and the sink.
pub record Network : Type 0 where
  pub junctions : ℕ
  pub pump : ℕ
  pub outlet : ℕ
  pub pipes : List Pipe

-- a pipe that joins two different junctions of n
pub record Joins (n : ℕ) (p : Pipe) : Type 0 where
  pub from_in : p.from < n
  pub to_in : p.to < n
  pub apart : p.from ≢ p.to

-- pump and outlet are two different junctions, and every pipe joins two; limits are free
pub record Wired (w : Network) : Type 0 where
  pub pump_in : w.pump < w.junctions
  pub outlet_in : w.outlet < w.junctions
  pub apart : w.pump ≢ w.outlet
  pub joins : AllByRecursion (Joins w.junctions) w.pipes

pub record Limited (p : Pipe) : Type 0 where
  pub some : 1 ≤ p.limit
  pub few : p.limit ≤ 60000

-- a network that a sheet can describe: 2 to 64 junctions, 0 to 512 pipes, limits of 1 to 60,000
pub record Sound (w : Network) : Type 0 where
  pub wired : Wired w
  pub two : 2 ≤ w.junctions
  pub most : w.junctions ≤ 64
  pub held : length w.pipes ≤ 512
  pub limited : AllByRecursion Limited w.pipes

-- two junctions, and nothing between them
abbrev pub bare : Network
bare = record { junctions = 2; pump = 0; outlet = 1; pipes = [] }
