-- The residual graph of a flow: where the flow can still be changed, and by how much.
use Rattle.std.specs.Prelude.{ℕ, ◌-◌, ◌<◌, List, length, slice_index, slice_index_or}
use Rattle.network.specs.declared.valve.Valve.TheVariants.{Closed}
use Rattle.network.specs.declared.step.Direction.{Direction}
use Rattle.network.specs.declared.step.Direction.TheVariants.{Along, Against}
use Rattle.network.specs.declared.step.Step.{Step}
use Rattle.network.specs.Network.{Pipe, Network}
use Rattle.network.specs.Valves.{room}

abbrev pub nowhere : Pipe
nowhere = record { from = 0; to = 0; limit = 0; valve = Closed }

-- the pipe of number k, and how many there are
abbrev pub pipe : Network → ℕ → Pipe
pipe w k = slice_index_or w.pipes k nowhere

abbrev pub size : Network → ℕ
size w = length w.pipes

-- what pipe k carries in a flow
abbrev pub carried : List ℕ → ℕ → ℕ
carried f k = slice_index f k

abbrev pub start_by : Direction → Pipe → ℕ
start_by Along p = p.from
start_by Against p = p.to

abbrev pub end_by : Direction → Pipe → ℕ
end_by Along p = p.to
end_by Against p = p.from

-- along an open pipe: what is left of its limit; against it: what it carries; nothing where it is closed
abbrev pub weight_by : Direction → Pipe → ℕ → ℕ
weight_by Along p c = room p.valve (p.limit - c)
weight_by Against p c = room p.valve c

-- the junction where a step begins, the one where it ends, and its weight
abbrev pub tail : Network → Step → ℕ
tail w s = start_by s.direction (pipe w s.pipe)

abbrev pub head : Network → Step → ℕ
head w s = end_by s.direction (pipe w s.pipe)

abbrev pub weight : Network → List ℕ → Step → ℕ
weight w f s = weight_by s.direction (pipe w s.pipe) (carried f s.pipe)

-- a step of the residual graph: one of weight 0 is absent
pub record Residual (w : Network) (f : List ℕ) (s : Step) : Type 0 where
  pub inside : s.pipe < size w
  pub heavy : 0 < weight w f s
