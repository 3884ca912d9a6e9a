-- A pipe of a table that may carry less than before, and the flow mended after it.
use Rattle.std.proofs.Common.{◌≡◌, ℕ, ◌-◌, ◌<◌, ◌≤◌, List, get_or, set, sym, refl, ◌∙◌, inl, inr, arith}
use mathlib.Core.Path.{transport}
use Rattle.network.specs.declared.table.Table.{Table}
use Rattle.network.specs.declared.valve.Valve.{Valve}
use Rattle.network.specs.Changes.{with_pipe, with_limit, with_valve}
use Rattle.network.specs.Flows.{Greatest}
use Rattle.network.specs.Network.{Pipe, Network, Wired}
use Rattle.network.specs.Pipes.{network_of, flow_of}
use Rattle.network.specs.Repair.{Torn}
use Rattle.network.specs.Reports.{least_capacity}
use Rattle.network.specs.Residual.{pipe, size, carried}
use Rattle.network.specs.Valves.{room}
use Rattle.network.proofs.Balance.{joins}
use Rattle.network.proofs.Changes.{with_wired}
use Rattle.network.proofs.Greatest.{greatest_value}
use Rattle.network.proofs.Repair.{change_torn, change_whole}
use Rattle.network.proofs.TableFacts.{table_size, table_wired}
use Rattle.paths.proofs.Tables.{read_row, pipe_is, carried_is}
use Rattle.interface.specs.Augmentations.{Mends}
use Rattle.interface.specs.Works.{Lowers}
use Rattle.augmenting.proofs.Leading.{repaired}

-- pipe k becomes p, with the same ends, and keeps x of what it carried
module _ (w : Network) (wired : Wired w) (k : ℕ) (k-in : k < size w) (p : Pipe) (from-same : p.from ≡ (pipe w k).from) (to_same : p.to ≡ (pipe w k).to)
    (f : List ℕ) (big : Greatest w f) (x : ℕ) (less : x ≤ carried f k) (small : x ≤ room p.valve p.limit) where
  torn_there : Torn (with_pipe w k p) (set f k x) (pipe w k).from (pipe w k).to (least_capacity w) (least_capacity w) (carried f k - x) (carried f k - x)
  torn_there = change_torn w wired k k-in p from-same to_same f (least_capacity w) x big.flow (greatest_value w wired f big) less small

  -- the mended flow is greatest
  pub lowers_greatest : {Λ : Type 0} {good : Λ → Λ → Type 0} {start : Λ} {extended : Λ → ℕ → Λ} → room p.valve p.limit ≤ room (pipe w k).valve (pipe w k).limit
      → (n : ℕ) (g : List ℕ) → Lowers good start extended w f k p x n g → Greatest (with_pipe w k p) g
  lowers_greatest lower n g m =
      let ends = joins w wired k k-in in
      let now_wired = with_wired w k k-in p from-same to_same wired in
      let r = repaired (with_pipe w k p) now_wired (pipe w k).from (pipe w k).to ends.from_in ends.to_in (least_capacity w) (carried f k - x) (set f k x) torn_there n g m in
      elim r.1 [
        | inl e ↦ change_whole w wired k k-in p from-same to_same lower f big g r.0 (e ∙ sym (greatest_value w wired f big))
        | inr b ↦ b
      ]

-- the same of a table t, which becomes u
module _ (t : Table) (k : ℕ) (inside : k < t.count) (l : ℕ) (v : Valve) (x : ℕ) (u : Table)
    (e : network_of u ≡ with_pipe (network_of t) k (with_valve (with_limit (pipe (network_of t) k) l) v)) (q : flow_of u ≡ set (flow_of t) k x) where
  pub torn_table : Greatest (network_of t) (flow_of t) → x ≤ carried (flow_of t) k → x ≤ room v l
      → (y : ℕ) × Torn (network_of u) (flow_of u) (get_or t.rows k read_row).from (get_or t.rows k read_row).to y y ((get_or t.rows k read_row).flow - x) ((get_or t.rows k read_row).flow - x)
  torn_table big less small =
      let y = least_capacity (network_of t) in
      let there = torn_there (network_of t) (table_wired t) k (omega (arith, table_size t)) (with_valve (with_limit (pipe (network_of t) k) l) v) refl refl (flow_of t) big x less small in
      (y, transport (λ i. Torn (sym e i) (sym q i) (pipe_is t k inside i).from (pipe_is t k inside i).to y y (carried_is t k inside i - x) (carried_is t k inside i - x)) there)

  pub lowers_table : {Λ : Type 0} {good : Λ → Λ → Type 0} {start : Λ} {extended : Λ → ℕ → Λ} (n : ℕ) (g : List ℕ)
      → Mends (network_of u) good start extended (get_or t.rows k read_row).from (get_or t.rows k read_row).to ((get_or t.rows k read_row).flow - x) (flow_of u) n g
      → Lowers good start extended (network_of t) (flow_of t) k (with_valve (with_limit (pipe (network_of t) k) l) v) x n g
  lowers_table {Λ} {good} {start} {extended} n g m =
      transport (λ i. Mends (e i) good start extended (sym (pipe_is t k inside) i).from (sym (pipe_is t k inside) i).to (sym (carried_is t k inside) i - x) (q i) n g) m
