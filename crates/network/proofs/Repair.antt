-- Repair after a change: a torn flow, what can be led where, and what the mended flow is worth.
use Rattle.std.proofs.Common.{◌≡◌, ℕ, ◌+◌, ◌-◌, ◌^◌, ◌<◌, ◌≤◌, Bool, true, false, eqb, ◌≢◌, List, length, set, pos, sym, refl, ap, ◌∙◌, inl, inr, arith, length-set, get_or-set_other, get_or-set_same}
use Rattle.std.proofs.lemmas.Int.{ints}
use Rattle.std.proofs.lemmas.List.Sums.{sum_by-set}
use Rattle.std.proofs.lemmas.Bool.{cases_eq, eq-eqb, ne_eqb, not_from_false, not-true, both_ways}
use Rattle.network.specs.Changes.{with_pipe}
use Rattle.network.specs.Cuts.{has, Cut, Minimum, leaves, capacity}
use Rattle.network.specs.Flows.{outflow, inflow, Within, Flow, value, Greatest}
use Rattle.network.specs.Network.{Pipe, Network, Wired}
use Rattle.network.specs.Pushing.{Shifts}
use Rattle.network.specs.Reaches.{Reaches, here, Sealed}
use Rattle.network.specs.Repair.{Torn}
use Rattle.network.specs.Residual.{nowhere, pipe, size, carried}
use Rattle.network.specs.Sums.{total, only}
use Rattle.network.specs.Valves.{room}
use Rattle.network.proofs.Balance.{balance, enters, flow_out, flow_in, full_out, none_in, weak_duality_lem, tight_greatest, tight_minimum}
use Rattle.network.proofs.Changes.{with_wired, with_size, with_outflow, with_inflow, with_cut}
use Rattle.network.proofs.Enumerated.{some_minimum, least_is}
use Rattle.network.proofs.Greatest.{greatest_value}
use Rattle.network.proofs.Pushing.{set_total}
use Rattle.network.proofs.Reached.{sealed_reach, reached_sealed, reached_set, is_reached, apart_sealed, apart_set, is_apart}
use Rattle.network.proofs.Totals.{total_eq, total_add, total_zero, total_hit, only_add, only_zero, only_le}

two_heaps : (n : ℕ) (S : ℕ → Bool) (p q x y : ℕ) → p < n → q < n → total n (λ k. only (S k) (only (eqb p k) x + only (eqb q k) y)) ≡ only (S p) x + only (S q) y
two_heaps n S p q x y l m =
    total_eq n _ _ (λ k _. only_add (S k) (only (eqb p k) x) (only (eqb q k) y))
    ∙ total_add n (λ k. only (S k) (only (eqb p k) x)) (λ k. only (S k) (only (eqb q k) y))
    ∙ rw (total_hit n S p x l, total_hit n S q y m)

so : (b : Bool) → (b ≡ false → ⊥) → b ≡ true
so true f = refl
so false f = absurd (f refl)

not_so : (b : Bool) → (b ≡ true → ⊥) → b ≡ false
not_so true f = absurd (f refl)
not_so false f = refl

-- what leads nowhere shifts nothing
pub shifts_none : (w : Network) (f : List ℕ) (a c : ℕ) → Shifts w f f a a c
shifts_none w f a c j = omega arith

-- one shift after another
pub shifts_again : (w : Network) (f g h : List ℕ) (a b c d : ℕ) → Shifts w f g a b c → Shifts w g h a b d → Shifts w f h a b (c + d)
shifts_again w f g h a b c d p q j = omega (arith, p j, q j, only_add (eqb a j) c d, only_add (eqb b j) c d)

module _ (w : Network) (wired : Wired w) where
  ends_apart : w.outlet ≢ w.pump
  ends_apart e = wired.apart (sym e)

  -- the outlet gets what the pump gives, as all that goes out of junctions comes into others
  outlet_gets : (f : List ℕ) (v : ℕ) → Flow w f → value w f ≡ pos v → inflow w f w.outlet ≡ outflow w f w.outlet + v
  outlet_gets f v h e =
      let all = balance w wired f (λ _. true) fed taken at in
      let gives = two_heaps w.junctions (λ _. true) w.pump w.outlet (outflow w f w.pump) (outflow w f w.outlet) wired.pump_in wired.outlet_in in
      let takes = two_heaps w.junctions (λ _. true) w.pump w.outlet (inflow w f w.pump) (inflow w f w.outlet) wired.pump_in wired.outlet_in in
      let none_out = total_zero (size w) (λ k. only (leaves (λ _. true) (pipe w k)) (carried f k)) (λ _ _. refl) in
      let none_into = total_zero (size w) (λ k. only (enters (λ _. true) (pipe w k)) (carried f k)) (λ _ _. refl) in
      omega (arith, ints, all, gives, takes, none_out, none_into, e)
    where
      fed : ℕ → ℕ
      fed k = only (eqb w.pump k) (outflow w f w.pump) + only (eqb w.outlet k) (outflow w f w.outlet)

      taken : ℕ → ℕ
      taken k = only (eqb w.pump k) (inflow w f w.pump) + only (eqb w.outlet k) (inflow w f w.outlet)

      at : (k : ℕ) → k < w.junctions → true ≡ true → outflow w f k + taken k ≡ inflow w f k + fed k
      at k l _ = elim (cases_eq w.pump k) [
        | inl p ↦ rw (← p, eq-eqb w.pump w.pump refl, ne_eqb w.outlet w.pump ends_apart) (omega arith)
        | inr p ↦ elim (cases_eq w.outlet k) [
          | inl o ↦ rw (← o, ne_eqb w.pump w.outlet wired.apart, eq-eqb w.outlet w.outlet refl) (omega arith)
          | inr o ↦ rw (ne_eqb w.pump k p, ne_eqb w.outlet k o) (omega (arith, h.conserves k l (λ e. p (sym e)) (λ e. o (sym e))))
        ]
      ]

  -- a flow's nets at every junction, the outlet's too
  pub flow_nets : (f : List ℕ) (v : ℕ) → Flow w f → value w f ≡ pos v →
      (k : ℕ) → k < w.junctions → outflow w f k + only (eqb w.outlet k) v ≡ inflow w f k + only (eqb w.pump k) v
  flow_nets f v h e k l = elim (cases_eq w.pump k) [
    | inl p ↦ rw (← p, eq-eqb w.pump w.pump refl, ne_eqb w.outlet w.pump ends_apart) (omega (arith, ints, e))
    | inr p ↦ elim (cases_eq w.outlet k) [
      | inl o ↦ rw (← o, ne_eqb w.pump w.outlet wired.apart, eq-eqb w.outlet w.outlet refl) (omega (arith, outlet_gets f v h e))
      | inr o ↦ rw (ne_eqb w.pump k p, ne_eqb w.outlet k o) (omega (arith, h.conserves k l (λ e. p (sym e)) (λ e. o (sym e))))
    ]
  ]

module _ (w : Network) (wired : Wired w) (i j : ℕ) where
  -- a torn flow with nothing over and nothing lacking is a flow
  module _ (f : List ℕ) (v : ℕ) (t : Torn w f i j v v 0 0) where
    plain : (k : ℕ) → k < w.junctions → outflow w f k + only (eqb w.outlet k) v ≡ inflow w f k + only (eqb w.pump k) v
    plain k l = omega (arith, t.nets k l, only_zero (eqb i k), only_zero (eqb j k))

    pub torn_flow : Flow w f
    torn_flow = record {
      within = t.within;
      conserves = λ k l p o. omega (
        arith,
        plain k l,
        ap (λ b. only b v) (ne_eqb w.pump k (λ e. p (sym e))),
        ap (λ b. only b v) (ne_eqb w.outlet k (λ e. o (sym e))),
      );
    }

    pub torn_value : value w f ≡ pos v
    torn_value = omega (
      arith,
      ints,
      plain w.pump wired.pump_in,
      ap (λ b. only b v) (eq-eqb w.pump w.pump refl),
      ap (λ b. only b v) (ne_eqb w.outlet w.pump (ends_apart w wired)),
    )

  module _ (f g : List ℕ) (a b c d a' b' c' d' e : ℕ) (within : Within w g) where
    -- e litres led from i to j; back from i to the pump; back from the outlet to j
    pub torn_over : Torn w f i j a b c d → Shifts w f g i j e → c ≡ c' + e → d ≡ d' + e → Torn w g i j a b c' d'
    torn_over t s p q = record {
      within = within;
      nets = λ k l. omega (arith, t.nets k l, s k, ap (only (eqb i k)) p, ap (only (eqb j k)) q, only_add (eqb i k) c' e, only_add (eqb j k) d' e);
    }

    pub torn_back : Torn w f i j a b c d → Shifts w f g i w.pump e → a ≡ a' + e → c ≡ c' + e → Torn w g i j a' b c' d
    torn_back t s p q = record {
      within = within;
      nets = λ k l. omega (arith, t.nets k l, s k, ap (only (eqb w.pump k)) p, ap (only (eqb i k)) q, only_add (eqb w.pump k) a' e, only_add (eqb i k) c' e);
    }

    pub torn_forth : Torn w f i j a b c d → Shifts w f g w.outlet j e → b ≡ b' + e → d ≡ d' + e → Torn w g i j a b' c d'
    torn_forth t s p q = record {
      within = within;
      nets = λ k l. omega (arith, t.nets k l, s k, ap (only (eqb w.outlet k)) p, ap (only (eqb j k)) q, only_add (eqb w.outlet k) b' e, only_add (eqb j k) d' e);
    }

  module _ (i-in : i < w.junctions) (j-in : j < w.junctions) where
    -- a set of junctions, against what goes in and comes out
    torn_balance : (g : List ℕ) (S : ℕ → Bool) (a b c d : ℕ) → Torn w g i j a b c d →
        flow_out w g S + (only (S w.outlet) b + only (S i) c) ≡ flow_in w g S + (only (S w.pump) a + only (S j) d)
    torn_balance g S a b c d t =
        let all = balance w wired g S (λ k. only (eqb w.pump k) a + only (eqb j k) d) (λ k. only (eqb w.outlet k) b + only (eqb i k) c)
        (λ k l e. omega (arith, t.nets k l)) in
        let fed = two_heaps w.junctions S w.pump j a d wired.pump_in j-in in
        let taken = two_heaps w.junctions S w.outlet i b c wired.outlet_in i-in in
        omega (arith, all, fed, taken)

    -- as much goes in or is left over as comes out or is lacking
    pub torn_even : (g : List ℕ) (a b c d : ℕ) → Torn w g i j a b c d → b + c ≡ a + d
    torn_even g a b c d t = omega (
      arith,
      torn_balance g (λ _. true) a b c d t,
      total_zero (size w) (λ k. only (leaves (λ _. true) (pipe w k)) (carried g k)) (λ _ _. refl),
      total_zero (size w) (λ k. only (enters (λ _. true) (pipe w k)) (carried g k)) (λ _ _. refl),
    )

    module _ (g : List ℕ) (s : ℕ) (sealed : Sealed w g s) (i_has : has s i ≡ true) (j_not : has s j ≡ false) where
      -- what a sealed set round i lets through
      torn_capacity : (a b c d : ℕ) → Torn w g i j a b c d → capacity w s + only (has s w.outlet) b + c ≡ only (has s w.pump) a
      torn_capacity a b c d t = omega (
        arith,
        torn_balance g (has s) a b c d t,
        full_out w wired g s t.within sealed,
        none_in w wired g s t.within sealed,
        ap (λ x. only x c) i_has,
        ap (λ x. only x d) j_not,
      )

      -- the sealed set is a cut that lets through d less than the flow before
      pub torn_cut : (v d : ℕ) → Torn w g i j v v d d → 0 < d → s < 2 ^ w.junctions → Cut w s × (capacity w s + d ≡ v)
      torn_cut v d t p l =
          let r = at (has s w.pump) (has s w.outlet) (torn_capacity v v d d t) in
          (record { inside = l; pump_in = r.0; outlet_out = r.1 }, r.2)
        where
          at : (x y : Bool) → capacity w s + only y v + d ≡ only x v → (x ≡ true) × (y ≡ false) × (capacity w s + d ≡ v)
          at true true e = absurd (omega arith)
          at true false e = (refl, refl, omega arith)
          at false true e = absurd (omega arith)
          at false false e = absurd (omega arith)

      -- so a flow of d less, however it is come by, is greatest, and the set is a minimum cut
      pub torn_greatest : (v d u : ℕ) → Torn w g i j v v d d → 0 < d → s < 2 ^ w.junctions → u + d ≡ v →
          (f : List ℕ) → Flow w f → value w f ≡ pos u → Greatest w f × Minimum w s
      torn_greatest v d u t p l e f h q =
          let c = torn_cut v d t p l in
          let tight : value w f ≡ pos (capacity w s) = omega (arith, ints, c.1) in
          (tight_greatest w wired f h s c.0 tight, tight_minimum w wired f h s c.0 tight)

      -- while something is left over at i, the pump is in the set
      pub torn_pump : (a b c d : ℕ) → Torn w g i j a b c d → 0 < c → has s w.pump ≡ true
      torn_pump a b c d t p = at (has s w.pump) (torn_capacity a b c d t)
        where
          at : (x : Bool) → capacity w s + only (has s w.outlet) b + c ≡ only x a → x ≡ true
          at true e = refl
          at false e = absurd (omega arith)

      -- and while something is lacking at j, the outlet is not
      pub torn_outlet : (a b c d : ℕ) → Torn w g i j a b c d → 0 < d → has s w.outlet ≡ false
      torn_outlet a b c d t p = at (has s w.pump) (has s w.outlet) (torn_capacity a b c d t)
        where
          even : b + c ≡ a + d
          even = torn_even g a b c d t

          at : (x y : Bool) → capacity w s + only y b + c ≡ only x a → y ≡ false
          at x false e = refl
          at true true e = absurd (omega (arith, even))
          at false true e = absurd (omega (arith, even))

      -- i does not reach j
      pub cut_off : Reaches w g i j → ⊥
      cut_off r = both_ways _ j_not (sealed_reach w g s sealed r i_has)

    -- where i does not reach j, what is left over can be led back to the pump, and what is lacking be taken from the outlet
    module _ (g : List ℕ) (no_way : Reaches w g i j → ⊥) (a b c d : ℕ) (t : Torn w g i j a b c d) where
      pub torn_leads_back : 0 < c → Reaches w g i w.pump
      torn_leads_back p =
          let r = is_reached w wired g i i-in in
          (r.bits w.pump wired.pump_in).0 (torn_pump g (reached_set w wired g i i-in) (reached_sealed w wired g i _ r) ((r.bits i i-in).1 here)
          (not_so _ (λ e. no_way ((r.bits j j-in).0 e))) a b c d t p)

      pub torn_leads_forth : 0 < d → Reaches w g w.outlet j
      torn_leads_forth p =
          let r = is_apart w wired g j j-in in
          (r.bits w.outlet wired.outlet_in).0 (not_from_false _ (torn_outlet g (apart_set w wired g j j-in) (apart_sealed w wired g j _ r)
          (so _ (λ e. no_way ((r.bits i i-in).0 (not_from_false _ e)))) (not-true _ ((r.bits j j-in).1 here)) a b c d t p))

-- pipe k becomes p, with the same ends
module _ (w : Network) (wired : Wired w) (k : ℕ) (k-in : k < size w) (p : Pipe) (from-same : p.from ≡ (pipe w k).from) (to_same : p.to ≡ (pipe w k).to) where
  -- its flow cut to x tears the flow at its ends by what it lost
  pub change_torn : (f : List ℕ) (v x : ℕ) → Flow w f → value w f ≡ pos v → x ≤ carried f k → x ≤ room p.valve p.limit →
      Torn (with_pipe w k p) (set f k x) (pipe w k).from (pipe w k).to v v (carried f k - x) (carried f k - x)
  change_torn f v x h e less small = record {
    within = record {
      each = length-set f k x ∙ h.within.each ∙ sym (with_size w k k-in p from-same to_same);
      limits = λ i l. elim (cases_eq i k) [
        | inl r ↦ rw (r, get_or-set_same f k x 0 k_here, get_or-set_same w.pipes k p nowhere k-in) small
        | inr d ↦ rw (get_or-set_other f k i x 0 d, get_or-set_other w.pipes k i p nowhere d) (h.within.limits i (rw (with_size w k k-in p from-same to_same) at l))
      ];
    };
    nets = λ j l. omega (
      arith,
      with_outflow w k k-in p from-same to_same (set f k x) j,
      with_inflow w k k-in p from-same to_same (set f k x) j,
      flow_nets w wired f v h e j l,
      set_total f k x (size w) k_here k-in (λ i. (pipe w i).from) j,
      set_total f k x (size w) k_here k-in (λ i. (pipe w i).to) j,
      lost (eqb (pipe w k).from j),
      lost (eqb (pipe w k).to j),
    );
  }
    where
      k_here : k < length f
      k_here = omega (arith, k-in, h.within.each)

      lost : (b : Bool) → only b (carried f k) ≡ only b x + only b (carried f k - x)
      lost true = omega arith
      lost false = refl

  -- a flow stays one while the pipe may carry what it carries
  pub change_flow : (f : List ℕ) → Flow w f → carried f k ≤ room p.valve p.limit → Flow (with_pipe w k p) f
  change_flow f h small = record {
    within = record {
      each = h.within.each ∙ sym (with_size w k k-in p from-same to_same);
      limits = λ i l. elim (cases_eq i k) [
        | inl r ↦ rw (r, get_or-set_same w.pipes k p nowhere k-in) small
        | inr d ↦ rw (get_or-set_other w.pipes k i p nowhere d) (h.within.limits i (rw (with_size w k k-in p from-same to_same) at l))
      ];
    };
    conserves = λ j l q o. with_outflow w k k-in p from-same to_same f j ∙ h.conserves j l q o ∙ sym (with_inflow w k k-in p from-same to_same f j);
  }

  -- where the pipe may carry no more than before, a flow of the greatest value before is greatest
  pub change_whole : room p.valve p.limit ≤ room (pipe w k).valve (pipe w k).limit →
      (f : List ℕ) → Greatest w f → (g : List ℕ) → Flow (with_pipe w k p) g → value (with_pipe w k p) g ≡ value w f → Greatest (with_pipe w k p) g
  change_whole less f big g h e =
      let m = some_minimum w wired in
      let cut = with_cut w k p m.0 m.1.cut in
      tight_greatest (with_pipe w k p) now_wired g h m.0 cut (omega (
        arith,
        ints,
        e,
        greatest_value w wired f big,
        least_is w wired m.0 m.1,
        smaller m.0,
        weak_duality_lem (with_pipe w k p) now_wired g h m.0 cut,
      ))
    where
      now_wired : Wired (with_pipe w k p)
      now_wired = with_wired w k k-in p from-same to_same wired

      smaller : (s : ℕ) → capacity (with_pipe w k p) s ≤ capacity w s
      smaller s =
          let here : only (leaves (has s) p) (room p.valve p.limit) ≤ only (leaves (has s) (pipe w k)) (room (pipe w k).valve (pipe w k).limit) =
          rw (from-same, to_same) (only_le (leaves (has s) (pipe w k)) _ _ less) in
          omega (arith, here, sum_by-set (λ p. only (leaves (has s) p) (room p.valve p.limit)) w.pipes k p nowhere k-in)
