-- What carries a change out.
use Rattle.std.specs.Prelude.{◌≡◌, ℕ, ℤ}
use Rattle.network.specs.declared.table.Table.{Table}
use Rattle.network.specs.Pipes.{network_of, flow_of}
use Rattle.interface.specs.Verdicts as verdicts
use Rattle.interface.specs.Works.{Change, after, Manner, Works}

-- The second table's network is that of the first after the change, d is the change of the greatest value,
-- and so many augmentations led to the second table's flow, in this manner.
pub record CarriedOut {Λ : Type 0} (manner : Manner) (good : Λ → Λ → Type 0) (start : Λ) (extended : Λ → ℕ → Λ) (t u : Table) (c : Change) (d : ℤ) (n : ℕ) : Type 0 where
  pub network : network_of u ≡ after (network_of t) c
  pub changes : d ≡ verdicts.change (network_of t) (network_of u)
  pub works : Works manner good start extended (network_of t) (flow_of t) c n (flow_of u)
