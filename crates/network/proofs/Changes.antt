-- A network with one pipe changed, its ends left.
use Rattle.std.proofs.Common.{◌≡◌, ℕ, ◌<◌, eqb, List, ap, ◌∙◌, inl, inr, length-set, get_or-set_other, get_or-set_same}
use Rattle.std.proofs.ByRecursion.{All-set}
use Rattle.std.proofs.lemmas.Bool.{cases_eq}
use Rattle.network.specs.Changes.{with_pipe}
use Rattle.network.specs.Cuts.{Cut}
use Rattle.network.specs.Flows.{outflow, inflow}
use Rattle.network.specs.Network.{Pipe, Network, Wired, Joins}
use Rattle.network.specs.Residual.{nowhere, pipe, size, carried}
use Rattle.network.specs.Sums.{total, only}
use Rattle.network.proofs.Balance.{joins}
use Rattle.network.proofs.Totals.{total_eq}

module _ (w : Network) (k : ℕ) (k-in : k < size w) (p : Pipe) (from-same : p.from ≡ (pipe w k).from) (to_same : p.to ≡ (pipe w k).to) where
  pub with_wired : Wired w → Wired (with_pipe w k p)
  with_wired wired = record {
    pump_in = wired.pump_in;
    outlet_in = wired.outlet_in;
    apart = wired.apart;
    joins = All-set (Joins w.junctions) w.pipes k p (here (joins w wired k k-in)) wired.joins;
  }
    where
      here : Joins w.junctions (pipe w k) → Joins w.junctions p
      here j = record { from_in = rw from-same j.from_in; to_in = rw to_same j.to_in; apart = rw (from-same, to_same) j.apart }

  pub with_size : size (with_pipe w k p) ≡ size w
  with_size = length-set w.pipes k p

  with_end : (e : Pipe → ℕ) → e p ≡ e (pipe w k) → (i : ℕ) → e (pipe (with_pipe w k p) i) ≡ e (pipe w i)
  with_end e q i = elim (cases_eq i k) [
    | inl r ↦ rw r (ap e (get_or-set_same w.pipes k p nowhere k-in) ∙ q)
    | inr d ↦ ap e (get_or-set_other w.pipes k i p nowhere d)
  ]

  pub with_outflow : (g : List ℕ) (j : ℕ) → outflow (with_pipe w k p) g j ≡ outflow w g j
  with_outflow g j = ap (λ n. total n (λ i. only (eqb (pipe (with_pipe w k p) i).from j) (carried g i))) with_size
      ∙ total_eq (size w) _ _ (λ i l. ap (λ x. only (eqb x j) (carried g i)) (with_end (λ p. p.from) from-same i))

  pub with_inflow : (g : List ℕ) (j : ℕ) → inflow (with_pipe w k p) g j ≡ inflow w g j
  with_inflow g j = ap (λ n. total n (λ i. only (eqb (pipe (with_pipe w k p) i).to j) (carried g i))) with_size
      ∙ total_eq (size w) _ _ (λ i l. ap (λ x. only (eqb x j) (carried g i)) (with_end (λ p. p.to) to_same i))

-- the cuts are the same
pub with_cut : (w : Network) (k : ℕ) (p : Pipe) (s : ℕ) → Cut w s → Cut (with_pipe w k p) s
with_cut w k p s c = record { inside = c.inside; pump_in = c.pump_in; outlet_out = c.outlet_out }

pub cut_with : (w : Network) (k : ℕ) (p : Pipe) (s : ℕ) → Cut (with_pipe w k p) s → Cut w s
cut_with w k p s c = record { inside = c.inside; pump_in = c.pump_in; outlet_out = c.outlet_out }
