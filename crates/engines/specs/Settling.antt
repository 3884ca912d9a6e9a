-- What a filled table has come to.
use Rattle.std.specs.Prelude.{◌≡◌, ℕ, ◌+◌, ◌-◌, ◌≤◌, List}
use Rattle.std.proofs.Common.{arith}
use Rattle.std.proofs.lemmas.Int.{ints}
use Rattle.network.specs.declared.step.Step.{Step}
use Rattle.network.specs.Flows.{Flow, Within, dry, Greatest, outflow, inflow}
use Rattle.network.specs.Network.{Network, Wired}
use Rattle.network.specs.Paths.{Path}
use Rattle.network.specs.Reports.{report_of}
use Rattle.network.proofs.Greatest.{dry_value, path_greatest, greatest_value, flow_le}
use Rattle.engines.specs.Balances.{Balanced}

pub balance : (w : Network) (f : List ℕ) → Flow w f → Balanced w f
balance w f h j i = h.conserves j i.0 i.1 i.2

pub flow_balanced : (w : Network) (f : List ℕ) → Within w f → Balanced w f → Flow w f
flow_balanced w f h b = record { within = h; conserves = λ j l p o. b j (l, p, o) }

pub dry_forth : (w : Network) → Wired w → inflow w (dry w) w.pump ≤ outflow w (dry w) w.pump
dry_forth w wired = omega (arith, ints, dry_value w wired)

-- a flow that no path augments has no negative value
pub full_forth : (w : Network) → Wired w → (f : List ℕ) → Flow w f → ((ss : List Step) → Path w f w.pump ss w.outlet → ⊥) → (v : ℕ) → v ≡ outflow w f w.pump - inflow w f w.pump
    → outflow w f w.pump ≡ inflow w f w.pump + v
full_forth w wired f flow none v e = omega (arith, ints, greatest_value w wired f (path_greatest w wired f flow none))

-- a flow of the least capacity is greatest
pub full_greatest : (w : Network) → Wired w → (f : List ℕ) → Flow w f → (v : ℕ) → outflow w f w.pump ≡ inflow w f w.pump + v → v ≡ (report_of w).value → Greatest w f
full_greatest w wired f flow v e r = record { flow = flow; greatest = λ g h. omega (arith, ints, flow_le w wired g h) }
