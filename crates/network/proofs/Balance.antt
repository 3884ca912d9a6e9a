-- What crosses a set of junctions, against what its junctions give and take.
use Rattle.std.proofs.Common.{◌≡◌, ℕ, ◌+◌, ◌-◌, ◌<◌, ◌≤◌, Bool, true, false, not, ◌&&◌, eqb, List, pos, ◌≤ℤ◌, sym, refl, ◌∙◌, inl, inr, arith}
use Rattle.std.proofs.ByRecursion.{All-get_or}
use Rattle.std.proofs.lemmas.Int.{ints}
use Rattle.std.proofs.lemmas.Bool.{cases_eq, eq-eqb, ne_eqb, cases_Bool, and_parts, not-true, both_ways, cases_lt, and_from, not_from_false}
use Rattle.network.specs.declared.step.Direction.{Direction}
use Rattle.network.specs.declared.step.Direction.TheVariants.{Along, Against}
use Rattle.network.specs.declared.valve.Valve.{Valve}
use Rattle.network.specs.declared.valve.Valve.TheVariants.{Open, Closed}
use Rattle.network.specs.Cuts.{has, Cut, Minimum, leaves, capacity}
use Rattle.network.specs.Flows.{outflow, inflow, Within, Flow, value, Greatest}
use Rattle.network.specs.Network.{Pipe, Network, Wired, Joins}
use Rattle.network.specs.Reaches.{Sealed}
use Rattle.network.specs.Residual.{nowhere, pipe, size, carried, start_by, end_by, weight_by}
use Rattle.network.specs.Sums.{total, only}
use Rattle.network.specs.Valves.{room}
use Rattle.network.proofs.Totals.{total_eq, total_le, total_add, total_zero, total_tight, total_hit, total_gather, total_sumBy, only_zero, only_le, only_eq, only_at}

pub joins : (w : Network) → Wired w → (k : ℕ) → k < size w → Joins w.junctions (pipe w k)
joins w wired k l = All-get_or (Joins w.junctions) w.pipes k nowhere l wired.joins

-- what pipe k may carry
abbrev pub most : Network → ℕ → ℕ
most w k = room (pipe w k).valve (pipe w k).limit

-- a pipe leads from outside the set to inside
abbrev pub enters : (ℕ → Bool) → Pipe → Bool
enters S p = S p.to && not (S p.from)

-- what a flow carries out of a set, and into it
abbrev pub flow_out : Network → List ℕ → (ℕ → Bool) → ℕ
flow_out w f S = total (size w) (λ k. only (leaves S (pipe w k)) (carried f k))

abbrev pub flow_in : Network → List ℕ → (ℕ → Bool) → ℕ
flow_in w f S = total (size w) (λ k. only (enters S (pipe w k)) (carried f k))

-- one pipe, by its two ends: leaving from an end in the set, and entering
crossing : (a b : Bool) (x : ℕ) → only a x + only (b && not a) x ≡ only b x + only (a && not b) x
crossing true true x = omega arith
crossing true false x = omega arith
crossing false true x = omega arith
crossing false false x = omega arith

module _ (w : Network) (wired : Wired w) (f : List ℕ) (S : ℕ → Bool) where
  -- over the junctions of the set, out less in is what leaves the set less what enters it
  pub cut_identity : total w.junctions (λ j. only (S j) (outflow w f j)) + flow_in w f S ≡ total w.junctions (λ j. only (S j) (inflow w f j)) + flow_out w f S
  cut_identity =
      let outs = total_gather w.junctions (size w) S (λ k. (pipe w k).from) (carried f) (λ k l. (joins w wired k l).from_in) in
      let ins = total_gather w.junctions (size w) S (λ k. (pipe w k).to) (carried f) (λ k l. (joins w wired k l).to_in) in
      let each = total_eq (size w) _ _ (λ k l. crossing (S (pipe w k).from) (S (pipe w k).to) (carried f k)) in
      let left = total_add (size w) (λ k. only (S (pipe w k).from) (carried f k)) (λ k. only (enters S (pipe w k)) (carried f k)) in
      let right = total_add (size w) (λ k. only (S (pipe w k).to) (carried f k)) (λ k. only (leaves S (pipe w k)) (carried f k)) in
      omega (arith, outs, ins, each, left, right)

  -- the junctions of the set are given g and give up t
  pub balance : (g t : ℕ → ℕ) → ((j : ℕ) → j < w.junctions → S j ≡ true → outflow w f j + t j ≡ inflow w f j + g j) →
      flow_out w f S + total w.junctions (λ j. only (S j) (t j)) ≡ flow_in w f S + total w.junctions (λ j. only (S j) (g j))
  balance g t h =
      let each = total_eq w.junctions _ _ (λ j l. at (S j) j (h j l)) in
      let left = total_add w.junctions (λ j. only (S j) (outflow w f j)) (λ j. only (S j) (t j)) in
      let right = total_add w.junctions (λ j. only (S j) (inflow w f j)) (λ j. only (S j) (g j)) in
      omega (arith, cut_identity, each, left, right)
    where
      at : (b : Bool) (j : ℕ) → (b ≡ true → outflow w f j + t j ≡ inflow w f j + g j) → only b (outflow w f j) + only b (t j) ≡ only b (inflow w f j) + only b (g j)
      at true j e = e refl
      at false j e = refl

-- the capacity, by places
pub capacity_is : (w : Network) (s : ℕ) → capacity w s ≡ total (size w) (λ k. only (leaves (has s) (pipe w k)) (most w k))
capacity_is w s = total_sumBy (λ p. only (leaves (has s) p) (room p.valve p.limit)) w.pipes nowhere

-- a step along has no weight just where the pipe carries all it may
pub along_full : (v : Valve) (l c : ℕ) → c ≤ room v l → (0 < room v (l - c) → ⊥) → c ≡ room v l
along_full Open l c h n = elim (cases_lt 0 (l - c)) [ inl p ↦ absurd (n p) | inr q ↦ omega arith ]
along_full Closed l c h n = omega arith

pub against_none : (v : Valve) (l c : ℕ) → c ≤ room v l → (0 < room v c → ⊥) → c ≡ 0
against_none Open l c h n = elim (cases_lt 0 c) [ inl p ↦ absurd (n p) | inr q ↦ omega arith ]
against_none Closed l c h n = omega arith

pub full_none : (v : Valve) (l c : ℕ) → c ≡ room v l → 0 < room v (l - c) → ⊥
full_none Open l c e p = omega arith
full_none Closed l c e p = omega arith

pub none_none : (v : Valve) (c : ℕ) → c ≡ 0 → 0 < room v c → ⊥
none_none Open c e p = omega arith
none_none Closed c e p = omega arith

module _ (w : Network) (wired : Wired w) (f : List ℕ) (s : ℕ) where
  -- what leaves a set within the limits is at most its capacity
  pub out_le : Within w f → flow_out w f (has s) ≤ capacity w s
  out_le h = rw (capacity_is w s) (total_le (size w) _ _ (λ k l. only_le (leaves (has s) (pipe w k)) _ _ (h.limits k l)))

  -- a flow's value is what leaves a cut less what enters it
  pub value_across : Flow w f → Cut w s → flow_out w f (has s) + inflow w f w.pump ≡ flow_in w f (has s) + outflow w f w.pump
  value_across h c =
      let all = balance w wired f (has s) (λ j. only (eqb w.pump j) (outflow w f w.pump)) (λ j. only (eqb w.pump j) (inflow w f w.pump)) at in
      let fed = total_hit w.junctions (has s) w.pump (outflow w f w.pump) wired.pump_in in
      let taken = total_hit w.junctions (has s) w.pump (inflow w f w.pump) wired.pump_in in
      let out : only (has s w.pump) (outflow w f w.pump) ≡ outflow w f w.pump = rw c.pump_in in
      let in_at : only (has s w.pump) (inflow w f w.pump) ≡ inflow w f w.pump = rw c.pump_in in
      omega (arith, all, fed, taken, out, in_at)
    where
      at : (j : ℕ) → j < w.junctions → has s j ≡ true →
          outflow w f j + only (eqb w.pump j) (inflow w f w.pump) ≡ inflow w f j + only (eqb w.pump j) (outflow w f w.pump)
      at j l e = elim (cases_eq w.pump j) [
        | inl q ↦ rw (← q, eq-eqb w.pump w.pump refl) (omega arith)
        | inr q ↦ rw (ne_eqb w.pump j q) (omega (arith, h.conserves j l (λ r. q (sym r)) (λ r. both_ways (has s j) (rw r c.outlet_out) e)))
      ]

  -- what no residual step leaves is crossed at full rate outwards, and not at all inwards
  pub full_out : Within w f → Sealed w f s → flow_out w f (has s) ≡ capacity w s
  full_out h cl = total_eq (size w) _ _ (λ k l. only_eq (leaves (has s) (pipe w k)) _ _ (at k l)) ∙ sym (capacity_is w s)
    where
      at : (k : ℕ) → k < size w → leaves (has s) (pipe w k) ≡ true → carried f k ≡ most w k
      at k l e =
          let ends = and_parts (has s (pipe w k).from) _ e in
          along_full (pipe w k).valve (pipe w k).limit (carried f k) (h.limits k l) (λ p. both_ways _ (not-true _ ends.1)
          (cl _ _ (record { step = record { pipe = k; direction = Along }; residual = record { inside = l; heavy = p }; starts = refl; ends = refl }) ends.0))

  pub none_in : Within w f → Sealed w f s → flow_in w f (has s) ≡ 0
  none_in h cl = total_zero (size w) _ (λ k l. only_eq (enters (has s) (pipe w k)) _ 0 (at k l) ∙ only_zero (enters (has s) (pipe w k)))
    where
      at : (k : ℕ) → k < size w → enters (has s) (pipe w k) ≡ true → carried f k ≡ 0
      at k l e =
          let ends = and_parts (has s (pipe w k).to) _ e in
          against_none (pipe w k).valve (pipe w k).limit (carried f k) (h.limits k l) (λ p. both_ways _ (not-true _ ends.1)
          (cl _ _ (record { step = record { pipe = k; direction = Against }; residual = record { inside = l; heavy = p }; starts = refl; ends = refl }) ends.0))

  -- and a set that is so crossed is sealed
  pub sealed_from : Within w f → capacity w s ≤ flow_out w f (has s) → flow_in w f (has s) ≡ 0 → Sealed w f s
  sealed_from h o i a b st e = rw (← st.ends) (at st.step.pipe st.residual.inside st.step.direction st.residual.heavy (rw st.starts e))
    where
      out_is : (k : ℕ) → k < size w → only (leaves (has s) (pipe w k)) (carried f k) ≡ only (leaves (has s) (pipe w k)) (most w k)
      out_is = total_tight (size w) _ _ (λ k l. only_le (leaves (has s) (pipe w k)) _ _ (h.limits k l)) (rw (← capacity_is w s) o)

      in_is : (k : ℕ) → k < size w → 0 ≡ only (enters (has s) (pipe w k)) (carried f k)
      in_is = total_tight (size w) (λ _. 0) _ (λ k l. omega arith) (omega (arith, i))

      at : (k : ℕ) → k < size w → (y : Direction) → 0 < weight_by y (pipe w k) (carried f k) →
          has s (start_by y (pipe w k)) ≡ true → has s (end_by y (pipe w k)) ≡ true
      at k l Along p d = elim (cases_Bool (has s (pipe w k).to)) [
        | inl q ↦ q
        | inr q ↦ absurd (full_none (pipe w k).valve (pipe w k).limit (carried f k) (only_at (leaves (has s) (pipe w k)) _ _ (and_from _ _ d (not_from_false _ q)) (out_is k l)) p)
      ]
      at k l Against p d = elim (cases_Bool (has s (pipe w k).from)) [
        | inl q ↦ q
        | inr q ↦ absurd (none_none (pipe w k).valve (carried f k) (only_at (enters (has s) (pipe w k)) _ 0 (and_from _ _ d (not_from_false _ q)) (sym (in_is k l) ∙ sym (only_zero (enters (has s) (pipe w k))))) p)
      ]

module _ (w : Network) (wired : Wired w) (f : List ℕ) (flow : Flow w f) where
  -- a flow brings no more than a cut lets through
  pub weak_duality_lem : (s : ℕ) → Cut w s → value w f ≤ℤ pos (capacity w s)
  weak_duality_lem s c = omega (arith, ints, value_across w wired f s flow c, out_le w wired f s flow.within)

  -- a cut that no residual step leaves lets through what the flow brings
  pub sealed_tight : (s : ℕ) → Cut w s → Sealed w f s → value w f ≡ pos (capacity w s)
  sealed_tight s c cl = omega (arith, ints, value_across w wired f s flow c, full_out w wired f s flow.within cl, none_in w wired f s flow.within cl)

  -- a cut that lets through just what the flow brings is sealed
  pub tight_sealed : (s : ℕ) → Cut w s → value w f ≡ pos (capacity w s) → Sealed w f s
  tight_sealed s c e =
      let across = value_across w wired f s flow c in
      let limit = out_le w wired f s flow.within in
      sealed_from w wired f s flow.within (omega (arith, ints)) (omega (arith, ints))

module _ (w : Network) (wired : Wired w) (f : List ℕ) (flow : Flow w f) (s : ℕ) (c : Cut w s) (tight : value w f ≡ pos (capacity w s)) where
  pub tight_greatest : Greatest w f
  tight_greatest = record { flow = flow; greatest = λ g h. omega (arith, ints, weak_duality_lem w wired g h s c) }

  pub tight_minimum : Minimum w s
  tight_minimum = record { cut = c; least = λ t d. omega (arith, ints, weak_duality_lem w wired f flow t d) }

  pub minimum_tight : (t : ℕ) → Minimum w t → value w f ≡ pos (capacity w t)
  minimum_tight t h = omega (arith, ints, h.least s c, tight_minimum.least t h.cut)
