-- What is read off a flow.
use Rattle.std.specs.Prelude.{ℕ, List, ◌==◌, map, sum, filter}
use Rattle.network.specs.declared.row.Row.{Row}
use Rattle.network.specs.declared.step.Direction.{Direction}
use Rattle.network.specs.Pipes.{pipe_of}
use Rattle.network.specs.Residual.{start_by}

-- what the pipes of these rows carry away from junction j (Along: `outflow`), or to it (Against: `inflow`)
abbrev pub passing : Direction → List Row → ℕ → ℕ
passing sense rows j = sum (map (λ (r : Row). r.flow) (filter (λ (r : Row). start_by sense (pipe_of r) == j) rows))
