-- A table with one row changed: its pipe has another limit and valve, and carries another amount.
use Rattle.std.proofs.Common.{◌≡◌, ℕ, ◌<◌, List, map, get_or, take, set, sym, ap, ◌∙◌, subst, arith}
use Rattle.std.proofs.lemmas.List.{set-get_or, get_or_default}
use Rattle.network.specs.declared.row.Row.{Row}
use Rattle.network.specs.declared.table.Table.{Table}
use Rattle.network.specs.declared.valve.Valve.{Valve}
use Rattle.network.specs.Changes.{with_pipe, with_limit, with_valve}
use Rattle.network.specs.Network.{Pipe, Network}
use Rattle.network.specs.Pipes.{pipe_of, network_of, flow_of}
use Rattle.network.specs.Residual.{nowhere, pipe}
use Rattle.network.specs.Rows.{no_row, Limited}
use Rattle.network.proofs.TableFacts.{rows_set}
use Rattle.paths.proofs.Tables.{read_row, pipe_is}

module _ (t : Table) (k : ℕ) (inside : k < t.count) where
  module _ (l : ℕ) (v : Valve) (x : ℕ) where
    abbrev pub new : Row
    new = record { from = (get_or t.rows k read_row).from; to = (get_or t.rows k read_row).to; limit = l; flow = x; valve = v }

    pub pipes_after : map pipe_of (take t.count (set t.rows k new)) ≡ set (network_of t).pipes k (with_valve (with_limit (pipe (network_of t) k) l) v)
    pipes_after = rows_set pipe_of t.rows t.count k new inside ∙ ap (λ (p : Pipe). set (network_of t).pipes k (with_valve (with_limit p l) v)) (sym (pipe_is t k inside))

    pub flows_after : map (λ (r : Row). r.flow) (take t.count (set t.rows k new)) ≡ set (flow_of t) k x
    flows_after = rows_set (λ (r : Row). r.flow) t.rows t.count k new inside

pub limited_read : (t : Table) (k : ℕ) → k < t.count → Limited (get_or t.rows k read_row)
limited_read t k inside = subst (λ (r : Row). Limited r) (get_or_default t.rows k no_row read_row (let a = t.long in let b = t.held in omega arith)) (t.limited k inside)

-- the limit and the valve that pipe k has already
pub with_own : (w : Network) (k : ℕ) → with_pipe w k (with_valve (with_limit (pipe w k) (pipe w k).limit) (pipe w k).valve) ≡ w
with_own w k = ap (λ (ps : List Pipe). record { junctions = w.junctions; pump = w.pump; outlet = w.outlet; pipes = ps }) (set-get_or w.pipes k nowhere)

pub own_row : (t : Table) (k : ℕ) → k < t.count → (l : ℕ) (v : Valve) → l ≡ (get_or t.rows k read_row).limit → v ≡ (get_or t.rows k read_row).valve
    → with_pipe (network_of t) k (with_valve (with_limit (pipe (network_of t) k) l) v) ≡ network_of t
own_row t k inside l v e q =
    let p = pipe_is t k inside in
    let w = network_of t in
    ap (λ (x : ℕ). with_pipe w k (with_valve (with_limit (pipe w k) x) v)) (e ∙ ap (λ (p : Pipe). p.limit) (sym p))
    ∙ ap (λ (x : Valve). with_pipe w k (with_valve (with_limit (pipe w k) (pipe w k).limit) x)) (q ∙ ap (λ (p : Pipe). p.valve) (sym p))
    ∙ with_own w k
