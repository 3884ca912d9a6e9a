-- The smallest weight on a path, and what an augmentation by it does.
use Rattle.std.proofs.Common.{◌≡◌, ℕ, ◌+◌, ◌<◌, ◌≤◌, min, List, [], ◌∷◌, sym, refl, ap, subst, arith}
use Rattle.std.specs.List.{AllByRecursion}
use Rattle.std.proofs.lemmas.Int.{ints}
use Rattle.std.proofs.lemmas.Bool.{eq-eqb, ne_eqb}
use Rattle.network.specs.declared.step.Step.{Step}
use Rattle.network.specs.Cuts.{has}
use Rattle.network.specs.Flows.{Within, Flow, outflow, inflow}
use Rattle.network.specs.Network.{Network, Wired}
use Rattle.network.specs.Paths.{Path}
use Rattle.network.specs.Pushing.{Shifts}
use Rattle.network.specs.Reaches.{Sealed}
use Rattle.network.specs.Reports.{least_capacity}
use Rattle.network.specs.Residual.{tail, size, weight}
use Rattle.network.specs.Sums.{only}
use Rattle.network.proofs.Balance.{weak_duality_lem}
use Rattle.network.proofs.Enumerated.{least_is, some_minimum}
use Rattle.network.proofs.Greatest.{shifted_flow}
use Rattle.network.proofs.Pushing.{path_within, path_shifts, path_sealed}
use Rattle.interface.specs.Augmentations.{least_weight_of, Augments}
use Rattle.augmenting.specs.Chains.{Takes}

module _ (w : Network) (f : List ℕ) where
  least_le : (most : ℕ) (ss : List Step) → least_weight_of w f most ss ≤ most
  least_le most [] = omega arith
  least_le most (s ∷ ss) = omega (arith, least_le (min most (weight w f s)) ss)

  pub least_all : (most : ℕ) (ss : List Step) → AllByRecursion (λ s. least_weight_of w f most ss ≤ weight w f s) ss
  least_all most [] = tt
  least_all most (s ∷ ss) = (omega (arith, least_le (min most (weight w f s)) ss), least_all (min most (weight w f s)) ss)

  module _ (a : ℕ) where
    pub path_some : (most : ℕ) (ss : List Step) (b : ℕ) → Path w f a ss b → 0 < most → 0 < least_weight_of w f most ss
    path_some most [] b p h = h
    path_some most (s ∷ ss) b p h = path_some (min most (weight w f s)) ss (tail w s) p.3 (omega (arith, p.0.heavy))

    pub path_takes : (c : ℕ) (ss : List Step) (b : ℕ) → Path w f a ss b → AllByRecursion (λ s. c ≤ weight w f s) ss → AllByRecursion (Takes w f c) ss
    path_takes c [] b p h = tt
    path_takes c (s ∷ ss) b p h = ((p.0.inside, h.0), path_takes c ss (tail w s) p.3 h.1)

    pub path_inside : (n : ℕ) → size w ≡ n → (ss : List Step) (b : ℕ) → Path w f a ss b → AllByRecursion (λ s. s.pipe < n) ss
    path_inside n e [] b p = tt
    path_inside n e (s ∷ ss) b p = (omega (arith, p.0.inside), path_inside n e ss (tail w s) p.3)

-- an augmentation from a to b keeps within the limits, moves its amount from a to b, and leaves sets sealed that have both ends or neither
module _ {Λ : Type 0} {good : Λ → Λ → Type 0} {start : Λ} {extended : Λ → ℕ → Λ} (w : Network) (a b most : ℕ) (f : List ℕ) (c : ℕ) (g : List ℕ) (aug : Augments w good start extended a b most f c g) where
  takes : AllByRecursion (λ s. c ≤ weight w f s) aug.steps
  takes = subst (λ (x : ℕ). AllByRecursion (λ s. x ≤ weight w f s) aug.steps) (sym aug.amount_is) (least_all w f most aug.steps)

  pub augmented_most : c ≤ most
  augmented_most = omega (arith, aug.amount_is, least_le w f most aug.steps)

  pub augmented_within : Within w f → Within w g
  augmented_within h = subst (λ (x : List ℕ). Within w x) (sym aug.gives) (path_within w f a b c aug.steps aug.leads takes h)

  pub augmented_shifts : Within w f → Shifts w f g a b c
  augmented_shifts h = subst (λ (x : List ℕ). Shifts w f x a b c) (sym aug.gives) (path_shifts w f a b c aug.steps aug.leads takes h)

  pub augmented_sealed : (u : ℕ) → Sealed w f u → has u a ≡ has u b → Sealed w g u
  augmented_sealed u h e = subst (λ (x : List ℕ). Sealed w x u) (sym aug.gives) (path_sealed w f a b c aug.steps aug.leads takes u h e)

module _ {Λ : Type 0} {good : Λ → Λ → Type 0} {start : Λ} {extended : Λ → ℕ → Λ} (w : Network) (wired : Wired w) (most : ℕ) (f : List ℕ) (c : ℕ) (g : List ℕ)
    (aug : Augments w good start extended w.pump w.outlet most f c g) (flow : Flow w f) where
  -- an augmentation from pump to outlet gives a flow
  pub augmented_flow : Flow w g
  augmented_flow = shifted_flow w wired f g c flow (augmented_within w w.pump w.outlet most f c g aug flow.within) (augmented_shifts w w.pump w.outlet most f c g aug flow.within)

  -- of a value that is greater by the amount
  pub augmented_net : outflow w g w.pump + inflow w f w.pump ≡ outflow w f w.pump + inflow w g w.pump + c
  augmented_net = omega (
    arith,
    augmented_shifts w w.pump w.outlet most f c g aug flow.within w.pump,
    ap (λ b. only b c) (eq-eqb w.pump w.pump refl),
    ap (λ b. only b c) (ne_eqb w.outlet w.pump (λ e. wired.apart (sym e))),
  )

-- the value is at most the least capacity
pub bounded : (w : Network) → Wired w → (f : List ℕ) → Flow w f → outflow w f w.pump ≤ least_capacity w + inflow w f w.pump
bounded w wired f flow =
    let m = some_minimum w wired in
    omega (arith, ints, least_is w wired m.0 m.1, weak_duality_lem w wired f flow m.0 m.1.cut)
