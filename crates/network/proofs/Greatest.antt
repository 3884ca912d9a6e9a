-- Greatest flows: that there is one, and the report by what its pump reaches and what does not reach its outlet.
use Rattle.std.proofs.Common.{◌≡◌, ℕ, zero, suc, ◌+◌, ◌<◌, ◌≤◌, true, false, eqb, List, [], ◌∷◌, pos, ◌+ℤ◌, ◌≤ℤ◌, sym, refl, ap, ◌∙◌, inl, inr, arith}
use lib.ListN.{get_or-replicate, length-replicate}
use Rattle.std.specs.List.{AllByRecursion}
use Rattle.std.proofs.lemmas.Int.{ints}
use Rattle.std.proofs.lemmas.Bool.{cases_Bool, eq-eqb, ne_eqb, not_from_false, not-true, both_ways}
use Rattle.network.specs.declared.step.Step.{Step}
use Rattle.network.specs.Cuts.{has, Cut, Minimum, capacity}
use Rattle.network.specs.Flows.{Within, Flow, dry, value, Greatest}
use Rattle.network.specs.Network.{Network, Wired}
use Rattle.network.specs.Paths.{Path}
use Rattle.network.specs.Pushing.{pushed, Shifts}
use Rattle.network.specs.Reaches.{Reaches, here, Sealed, Reached, Apart}
use Rattle.network.specs.Reports.{least_capacity, report_of}
use Rattle.network.specs.Residual.{pipe, size, carried, weight, tail}
use Rattle.network.specs.Sums.{total, only}
use Rattle.network.proofs.Balance.{weak_duality_lem, sealed_tight, tight_sealed, tight_greatest, tight_minimum, minimum_tight}
use Rattle.network.proofs.Enumerated.{least_is, value_is, near_bits, far_bits, near_inside, far_inside, some_minimum}
use Rattle.network.proofs.Pushing.{path_within, path_shifts}
use Rattle.network.proofs.Reached.{sealed_reach, reached_sealed, apart_sealed, reached_set, is_reached, reaches_path, apart_set, is_apart}
use Rattle.network.proofs.Totals.{total_zero, only_zero}
use Rattle.network.proofs.Words.{same_word, same_test}

-- c litres moved from the pump to the outlet: a flow of c more
module _ (w : Network) (wired : Wired w) (f g : List ℕ) (c : ℕ) (flow : Flow w f) (within : Within w g) (shifts : Shifts w f g w.pump w.outlet c) where
  pub shifted_flow : Flow w g
  shifted_flow = record {
    within = within;
    conserves = λ j l p o. omega (
      arith,
      flow.conserves j l p o,
      shifts j,
      ap (λ b. only b c) (ne_eqb w.pump j (λ e. p (sym e))),
      ap (λ b. only b c) (ne_eqb w.outlet j (λ e. o (sym e))),
    );
  }

  pub shifted_value : value w g ≡ value w f +ℤ pos c
  shifted_value = omega (
    arith,
    ints,
    shifts w.pump,
    ap (λ b. only b c) (eq-eqb w.pump w.pump refl),
    ap (λ b. only b c) (ne_eqb w.outlet w.pump (λ e. wired.apart (sym e))),
  )

-- what a path from the pump to the outlet takes more is a flow of so much more
module _ (w : Network) (wired : Wired w) (f : List ℕ) (flow : Flow w f) (c : ℕ) (ss : List Step) (path : Path w f w.pump ss w.outlet)
    (takes : AllByRecursion (λ s. c ≤ weight w f s) ss) where
  within : Within w (pushed f c ss)
  within = path_within w f w.pump w.outlet c ss path takes flow.within

  shifts : Shifts w f (pushed f c ss) w.pump w.outlet c
  shifts = path_shifts w f w.pump w.outlet c ss path takes flow.within

  pub augmented_flow : Flow w (pushed f c ss)
  augmented_flow = shifted_flow w wired f (pushed f c ss) c flow within shifts

  pub augmented_value : value w (pushed f c ss) ≡ value w f +ℤ pos c
  augmented_value = shifted_value w wired f (pushed f c ss) c flow within shifts

-- a path takes one litre more
path_one : (w : Network) (f : List ℕ) (a : ℕ) (ss : List Step) (b : ℕ) → Path w f a ss b → AllByRecursion (λ s. 1 ≤ weight w f s) ss
path_one w f a [] b p = tt
path_one w f a (s ∷ ss) b p = (omega (arith, p.0.heavy), path_one w f a ss (tail w s) p.3)

-- a greatest flow has no augmenting path
pub no_path : (w : Network) → Wired w → (f : List ℕ) → Greatest w f → (ss : List Step) → Path w f w.pump ss w.outlet → ⊥
no_path w wired f g ss path =
    let takes = path_one w f w.pump ss w.outlet path in
    let more = augmented_flow w wired f g.flow 1 ss path takes in
    omega (arith, ints, augmented_value w wired f g.flow 1 ss path takes, g.greatest (pushed f 1 ss) more)

-- where the pump does not reach the outlet, the junctions that it reaches are a cut, and so are those that do not reach the outlet
module _ (w : Network) (wired : Wired w) (f : List ℕ) (apart : Reaches w f w.pump w.outlet → ⊥) where
  pub near_cut : (s : ℕ) → Reached w f w.pump s → Cut w s
  near_cut s n = record {
    inside = n.inside;
    pump_in = (n.bits w.pump wired.pump_in).1 here;
    outlet_out = elim (cases_Bool (has s w.outlet)) [ inl q ↦ absurd (apart ((n.bits w.outlet wired.outlet_in).0 q)) | inr q ↦ q ];
  }

  pub far_cut : (s : ℕ) → Apart w f w.outlet s → Cut w s
  far_cut s m = record {
    inside = m.inside;
    pump_in = elim (cases_Bool (has s w.pump)) [ inl q ↦ q | inr q ↦ absurd (apart ((m.bits w.pump wired.pump_in).0 (not_from_false _ q))) ];
    outlet_out = not-true _ ((m.bits w.outlet wired.outlet_in).1 here);
  }

-- there is a greatest flow: one litre more at a time, from dry pipes
module _ (w : Network) (wired : Wired w) where
  dry_sum : (e : ℕ → ℕ) (j : ℕ) → total (size w) (λ k. only (eqb (e k) j) (carried (dry w) k)) ≡ 0
  dry_sum e j = total_zero (size w) _ (λ k l. rw (get_or-replicate {A = ℕ} (size w) k 0 0 l) (only_zero (eqb (e k) j)))

  pub dry_flow : Flow w (dry w)
  dry_flow = record {
    within = record { each = length-replicate (size w) 0; limits = λ k l. rw (get_or-replicate {A = ℕ} (size w) k 0 0 l) (omega arith) };
    conserves = λ j l p o. dry_sum (λ k. (pipe w k).from) j ∙ sym (dry_sum (λ k. (pipe w k).to) j);
  }

  pub dry_value : value w (dry w) ≡ pos 0
  dry_value = omega (arith, ints, dry_sum (λ k. (pipe w k).from) w.pump, dry_sum (λ k. (pipe w k).to) w.pump)

  filled : (fuel v : ℕ) (f : List ℕ) → Flow w f → value w f ≡ pos v → least_capacity w ≤ v + fuel → (g : List ℕ) × Greatest w g
  filled zero v f h e l =
      let m = some_minimum w wired in
      (f, tight_greatest w wired f h m.0 m.1.cut (omega (arith, ints, least_is w wired m.0 m.1, weak_duality_lem w wired f h m.0 m.1.cut)))
  filled (suc n) v f h e l =
      let r = is_reached w wired f w.pump wired.pump_in in
      let s = reached_set w wired f w.pump wired.pump_in in
      elim (cases_Bool (has s w.outlet)) [
        | inl q ↦
            let p = reaches_path w wired f w.pump wired.pump_in w.outlet ((r.bits w.outlet wired.outlet_in).0 q) in
            let takes = path_one w f w.pump p.0 w.outlet p.1 in
            filled n (v + 1) (pushed f 1 p.0) (augmented_flow w wired f h 1 p.0 p.1 takes)
            (omega (arith, ints, augmented_value w wired f h 1 p.0 p.1 takes)) (omega arith)
        | inr q ↦
            let cut = near_cut w wired f (λ x. both_ways _ q ((r.bits w.outlet wired.outlet_in).1 x)) s r in
            (f, tight_greatest w wired f h s cut (sealed_tight w wired f h s cut (reached_sealed w wired f w.pump s r)))
      ]

  pub some_greatest : (f : List ℕ) × Greatest w f
  some_greatest = filled (least_capacity w) 0 (dry w) dry_flow dry_value (omega arith)

-- a flow whose pump does not reach its outlet: it is greatest, and the two sets are minimum cuts, inside every other and round it
module _ (w : Network) (wired : Wired w) (f : List ℕ) (flow : Flow w f) (apart : Reaches w f w.pump w.outlet → ⊥) (near far : ℕ)
    (n : Reached w f w.pump near) (m : Apart w f w.outlet far) where
  near_tight : value w f ≡ pos (capacity w near)
  near_tight = sealed_tight w wired f flow near (near_cut w wired f apart near n) (reached_sealed w wired f w.pump near n)

  pub apart_greatest : Greatest w f
  apart_greatest = tight_greatest w wired f flow near (near_cut w wired f apart near n) near_tight

  pub near_minimum : Minimum w near
  near_minimum = tight_minimum w wired f flow near (near_cut w wired f apart near n) near_tight

  pub far_minimum : Minimum w far
  far_minimum =
      let cut = far_cut w wired f apart far m in
      tight_minimum w wired f flow far cut (sealed_tight w wired f flow far cut (apart_sealed w wired f w.outlet far m))

  -- no residual step leaves a minimum cut
  pub minimum_sealed : (s : ℕ) → Minimum w s → Sealed w f s
  minimum_sealed s h = tight_sealed w wired f flow s h.cut (minimum_tight w wired f flow near (near_cut w wired f apart near n) near_tight s h)

  pub near_in : (s : ℕ) → Minimum w s → (k : ℕ) → k < w.junctions → has near k ≡ true → has s k ≡ true
  near_in s h k l e = sealed_reach w f s (minimum_sealed s h) ((n.bits k l).0 e) h.cut.pump_in

  pub in_far : (s : ℕ) → Minimum w s → (k : ℕ) → k < w.junctions → has s k ≡ true → has far k ≡ true
  in_far s h k l e = elim (cases_Bool (has far k)) [
    | inl q ↦ q
    | inr q ↦ absurd (both_ways _ h.cut.outlet_out (sealed_reach w f s (minimum_sealed s h) ((m.bits k l).0 (not_from_false _ q)) e))
  ]

  pub value_least : value w f ≡ pos (least_capacity w)
  value_least = omega (arith, ints, near_tight, least_is w wired near near_minimum)

  pub near_is : (report_of w).near ≡ near
  near_is = same_word w.junctions _ near (near_inside w) n.inside (λ k l. same_test _ _
      (λ e. (near_bits w wired k).0 e near near_minimum) (λ e. (near_bits w wired k).1 (λ s h. near_in s h k l e)))

  pub far_is : (report_of w).far ≡ far
  far_is = same_word w.junctions _ far (far_inside w wired) m.inside (λ k l. same_test _ _
      (λ e. let r = (far_bits w wired k).0 e in in_far r.0 r.1 k l r.2) (λ e. (far_bits w wired k).1 (far, far_minimum, e)))

-- the report of a network, by any flow whose pump does not reach its outlet
pub report_is : (w : Network) → Wired w → (f : List ℕ) (v near far : ℕ) → Flow w f → value w f ≡ pos v →
    Reached w f w.pump near → Apart w f w.outlet far → has near w.outlet ≡ false → report_of w ≡ record { value = v; near = near; far = far }
report_is w wired f v near far flow e n m out = λ i. record { value = value_at i; near = near_at i; far = far_at i }
  where
    apart : Reaches w f w.pump w.outlet → ⊥
    apart r = both_ways _ out ((n.bits w.outlet wired.outlet_in).1 r)

    value_at : (report_of w).value ≡ v
    value_at = omega (arith, ints, value_is w, e, value_least w wired f flow apart near far n m)

    near_at : (report_of w).near ≡ near
    near_at = near_is w wired f flow apart near far n m

    far_at : (report_of w).far ≡ far
    far_at = far_is w wired f flow apart near far n m

-- a greatest flow
module _ (w : Network) (wired : Wired w) (f : List ℕ) (g : Greatest w f) where
  pub greatest_apart : Reaches w f w.pump w.outlet → ⊥
  greatest_apart r = let p = reaches_path w wired f w.pump wired.pump_in w.outlet r in no_path w wired f g p.0 p.1

  near_set : Reached w f w.pump (reached_set w wired f w.pump wired.pump_in)
  near_set = is_reached w wired f w.pump wired.pump_in

  far_set : Apart w f w.outlet (apart_set w wired f w.outlet wired.outlet_in)
  far_set = is_apart w wired f w.outlet wired.outlet_in

  pub greatest_value : value w f ≡ pos (least_capacity w)
  greatest_value = value_least w wired f g.flow greatest_apart _ _ near_set far_set

  pub greatest_near : Reached w f w.pump (report_of w).near
  greatest_near = rw (near_is w wired f g.flow greatest_apart _ _ near_set far_set) near_set

  pub greatest_far : Apart w f w.outlet (report_of w).far
  greatest_far = rw (far_is w wired f g.flow greatest_apart _ _ near_set far_set) far_set

-- and a flow that no path augments is greatest
pub path_greatest : (w : Network) → Wired w → (f : List ℕ) → Flow w f → ((ss : List Step) → Path w f w.pump ss w.outlet → ⊥) → Greatest w f
path_greatest w wired f h none = apart_greatest w wired f h apart _ _ (is_reached w wired f w.pump wired.pump_in) (is_apart w wired f w.outlet wired.outlet_in)
  where
    apart : Reaches w f w.pump w.outlet → ⊥
    apart r = let p = reaches_path w wired f w.pump wired.pump_in w.outlet r in none p.0 p.1

-- no flow brings more than the report's value
pub flow_le : (w : Network) → Wired w → (f : List ℕ) → Flow w f → value w f ≤ℤ pos (report_of w).value
flow_le w wired f h =
    let m = some_minimum w wired in
    omega (arith, ints, weak_duality_lem w wired f h m.0 m.1.cut, least_is w wired m.0 m.1, value_is w)
