-- Networks with one pipe changed.
use Rattle.std.specs.Prelude.{ℕ, ◌+◌, slice_set}
use Rattle.network.specs.declared.valve.Valve.{Valve}
use Rattle.network.specs.declared.valve.Valve.TheVariants.{Open, Closed}
use Rattle.network.specs.Network.{Pipe, Network}
use Rattle.network.specs.Residual.{pipe}

-- pipe k becomes p
abbrev pub with_pipe : Network → ℕ → Pipe → Network
with_pipe w k p = record { junctions = w.junctions; pump = w.pump; outlet = w.outlet; pipes = slice_set w.pipes k p }

abbrev pub with_limit : Pipe → ℕ → Pipe
with_limit p l = record { from = p.from; to = p.to; limit = l; valve = p.valve }

abbrev pub with_valve : Pipe → Valve → Pipe
with_valve p v = record { from = p.from; to = p.to; limit = p.limit; valve = v }

-- one litre more on the limit of pipe k; the rules are the same above 60,000
abbrev pub raised : Network → ℕ → Network
raised w k = with_pipe w k (with_limit (pipe w k) ((pipe w k).limit + 1))

-- another limit on pipe k
abbrev pub with_pipe_limit : Network → ℕ → ℕ → Network
with_pipe_limit w k l = with_pipe w k (with_limit (pipe w k) l)

-- the valve of pipe k opened; closed
abbrev pub with_pipe_open : Network → ℕ → Network
with_pipe_open w k = with_pipe w k (with_valve (pipe w k) Open)

abbrev pub with_pipe_closed : Network → ℕ → Network
with_pipe_closed w k = with_pipe w k (with_valve (pipe w k) Closed)
