-- The listed cuts and minimum cuts are all the cuts and all the minimum cuts.
use Rattle.std.proofs.Common.{◌≡◌, ℕ, zero, suc, ◌-◌, ◌^◌, ◌<◌, ◌≤◌, min, Bool, true, false, cond, not, ◌⊎◌, List, [], ◌∷◌, Decides, fold, sum_by, filter, refl, inl, inr, arith}
use Rattle.std.specs.List.{AllByRecursion}
use Rattle.std.proofs.lemmas.Nat.{pow_pos, pow_below}
use Rattle.std.proofs.ByRecursion.{All-weaker, sum_by_le}
use Rattle.std.proofs.lemmas.List.Sums.{sum_by-cons}
use Rattle.std.proofs.lemmas.Bool.{cases_eq, cases_lt, cases_Bool, eq-eqb, eqb-true, and_parts, and_from, not_from_false, not-true, both_ways, false≢true}
use Rattle.network.specs.declared.valve.Valve.{Valve}
use Rattle.network.specs.declared.valve.Valve.TheVariants.{Open, Closed}
use Rattle.network.specs.Cuts.{has, Cut, Minimum, leaves, capacity, InEvery, InSome}
use Rattle.network.specs.Network.{Pipe, Network, Wired, Limited, Sound}
use Rattle.network.specs.Reports.{is_cut, cuts, below, all_limits, least_capacity, minimum_cuts, report_of}
use Rattle.network.specs.Sums.{only}
use Rattle.network.specs.Valves.{room}
use Rattle.network.proofs.Words.{has_full, has_zero, has_power, has_other, has_beyond, and_fold_true, and_fold_parts, or_fold_parts, or_fold_some, and_fold_le, or_fold_lt}

-- what holds below n
all_below : (P : ℕ → Type 0) (n : ℕ) → ((k : ℕ) → k < n → P k) → AllByRecursion P (below n)
all_below P zero h = tt
all_below P (suc n) h = (h n (omega arith), all_below P n (λ k l. h k (omega arith)))

below_all : (P : ℕ → Type 0) (n : ℕ) → AllByRecursion P (below n) → (k : ℕ) → k < n → P k
below_all P zero h k l = absurd (omega arith)
below_all P (suc n) h k l =
    let rest : k < n → P k = below_all P n h.1 k in
    elim (cases_eq k n) [ inl e ↦ rw e h.0 | inr d ↦ rest (omega arith) ]

-- what holds of all that pass
all_kept : {X : Type 0} (t : X → Bool) (P : X → Type 0) (xs : List X) → AllByRecursion (λ x. t x ≡ true → P x) xs → AllByRecursion P (filter t xs)
all_kept t P [] h = tt
all_kept t P (x ∷ xs) h = at (t x) h.0 (all_kept t P xs h.1)
  where
    at : (b : Bool) → (b ≡ true → P x) → AllByRecursion P (filter t xs) → AllByRecursion P (cond b (x ∷ filter t xs) (filter t xs))
    at true e r = (e refl, r)
    at false e r = r

kept_all : {X : Type 0} (t : X → Bool) (P : X → Type 0) (xs : List X) → AllByRecursion P (filter t xs) → AllByRecursion (λ x. t x ≡ true → P x) xs
kept_all t P [] h = tt
kept_all t P (x ∷ xs) h = let r = at (t x) h in (r.0, kept_all t P xs r.1)
  where
    at : (b : Bool) → AllByRecursion P (cond b (x ∷ filter t xs) (filter t xs)) → (b ≡ true → P x) × AllByRecursion P (filter t xs)
    at true h = (λ _. h.0, h.1)
    at false h = (λ e. absurd (false≢true e), h)

module _ (w : Network) where
  all_cuts : (P : ℕ → Type 0) → ((s : ℕ) → Cut w s → P s) → AllByRecursion P (cuts w)
  all_cuts P h = all_kept (is_cut w) P (below (2 ^ w.junctions)) (all_below _ (2 ^ w.junctions) (λ s l e.
      let parts = and_parts (has s w.pump) _ e in
      h s (record { inside = l; pump_in = parts.0; outlet_out = not-true _ parts.1 })))

  cuts_all : (P : ℕ → Type 0) → AllByRecursion P (cuts w) → (s : ℕ) → Cut w s → P s
  cuts_all P h s c = below_all _ (2 ^ w.junctions) (kept_all (is_cut w) P (below (2 ^ w.junctions)) h) s c.inside
      (and_from _ _ c.pump_in (not_from_false _ c.outlet_out))

-- the least of i and of what c makes of each
module _ (c : ℕ → ℕ) where
  min_le : (i : ℕ) (ss : List ℕ) → fold (λ m s. min m (c s)) i ss ≤ i
  min_le i [] = omega arith
  min_le i (s ∷ ss) = omega (arith, min_le (min i (c s)) ss)

  min_all : (i : ℕ) (ss : List ℕ) → AllByRecursion (λ s. fold (λ m t. min m (c t)) i ss ≤ c s) ss
  min_all i [] = tt
  min_all i (s ∷ ss) = (omega (arith, min_le (min i (c s)) ss), min_all (min i (c s)) ss)

  -- it is i or is met
  min_met : (P : ℕ → Type 0) (i : ℕ) (ss : List ℕ) → AllByRecursion P ss → (fold (λ m s. min m (c s)) i ss ≡ i) ⊎ ((s : ℕ) × P s × (c s ≡ fold (λ m s. min m (c s)) i ss))
  min_met P i [] h = inl refl
  min_met P i (s ∷ ss) h = elim (min_met P (min i (c s)) ss h.1) [
    | inl e ↦ elim (cases_lt (c s) i) [ inl lt ↦ inr (s, h.0, omega arith) | inr le ↦ inl (omega arith) ]
    | inr r ↦ inr r
  ]

room_le : (v : Valve) (l : ℕ) → room v l ≤ l
room_le Open l = omega arith
room_le Closed l = omega arith

only_le : (b : Bool) (v : Valve) (l : ℕ) → only b (room v l) ≤ l
only_le true v l = room_le v l
only_le false v l = omega arith

capacity_le : (s : ℕ) (ps : List Pipe) → sum_by (λ p. only (leaves (has s) p) (room p.valve p.limit)) ps ≤ sum_by (λ p. p.limit) ps
capacity_le s [] = omega arith
capacity_le s (p ∷ ps) = omega (
  arith,
  capacity_le s ps,
  only_le (leaves (has s) p) p.valve p.limit,
  sum_by-cons (λ p. only (leaves (has s) p) (room p.valve p.limit)) p ps,
  sum_by-cons (λ p. p.limit) p ps,
)

pub least_le : (w : Network) (s : ℕ) → Cut w s → least_capacity w ≤ capacity w s
unfolding least_capacity
least_le w = cuts_all w _ (min_all (capacity w) (all_limits w) (cuts w))

pub is_minimum : (w : Network) (s : ℕ) → Cut w s → capacity w s ≤ least_capacity w → Minimum w s
is_minimum w s c e = record { cut = c; least = λ t d. omega (arith, least_le w t d) }

pub value_is : (w : Network) → (report_of w).value ≡ least_capacity w
unfolding report_of
value_is w = refl

pub near_inside : (w : Network) → (report_of w).near < 2 ^ w.junctions
unfolding report_of
near_inside w = omega (arith, and_fold_le (2 ^ w.junctions - 1) (minimum_cuts w), pow_pos w.junctions)

module _ (w : Network) (wired : Wired w) where
  pump_alone : Cut w (2 ^ w.pump)
  pump_alone = record {
    inside = pow_below w.pump w.junctions wired.pump_in;
    pump_in = has_power w.pump;
    outlet_out = has_other w.pump w.outlet wired.apart;
  }

  -- there is a cut of the least capacity
  some_least : (s : ℕ) × Cut w s × (capacity w s ≤ least_capacity w)
  unfolding least_capacity
  some_least = elim (min_met (capacity w) (Cut w) (all_limits w) (cuts w) (all_cuts w (Cut w) (λ s c. c))) [
    | inl e ↦ (2 ^ w.pump, pump_alone, omega (arith, e, capacity_le (2 ^ w.pump) w.pipes))
    | inr r ↦ (r.0, r.1, omega (arith, r.2))
  ]

  pub some_minimum : (s : ℕ) × Minimum w s
  some_minimum = (some_least.0, is_minimum w some_least.0 some_least.1 some_least.2)

  pub least_greatest : (b : ℕ) → ((s : ℕ) → Cut w s → b ≤ capacity w s) → b ≤ least_capacity w
  least_greatest b h = omega (arith, some_least.2, h some_least.0 some_least.1)

  pub least_is : (s : ℕ) → Minimum w s → capacity w s ≡ least_capacity w
  least_is s h = omega (arith, least_le w s h.cut, least_greatest (capacity w s) h.least)

  all_minimum : (P : ℕ → Type 0) → ((s : ℕ) → Minimum w s → P s) → AllByRecursion P (minimum_cuts w)
  all_minimum P h = all_kept _ P (cuts w) (all_cuts w _ (λ s c e. h s (is_minimum w s c (omega (arith, eqb-true _ _ e)))))

  minimum_all : (P : ℕ → Type 0) → AllByRecursion P (minimum_cuts w) → (s : ℕ) → Minimum w s → P s
  minimum_all P h s l = cuts_all w _ (kept_all _ P (cuts w) h) s l.cut (eq-eqb _ _ (least_is s l))

  pub far_inside : (report_of w).far < 2 ^ w.junctions
  unfolding report_of
  far_inside = or_fold_lt w.junctions 0 (minimum_cuts w) (pow_pos w.junctions) (all_minimum _ (λ s h. h.cut.inside))

  -- a junction that does not exist is in no minimum cut
  beyond : (k : ℕ) → w.junctions ≤ k → InEvery w k → ⊥
  beyond k l h = both_ways _ (has_beyond w.junctions some_minimum.0 k some_minimum.1.cut.inside l) (h some_minimum.0 some_minimum.1)

  -- the near side has the junctions in every minimum cut, the far side those in at least one
  pub near_bits : (k : ℕ) → Decides (has (report_of w).near k) (InEvery w k)
  unfolding report_of
  near_bits k = (
    λ e. minimum_all _ (and_fold_parts k _ (minimum_cuts w) e).1,
    λ h. elim (cases_lt k w.junctions) [
      | inl l ↦ and_fold_true k _ (minimum_cuts w) (has_full w.junctions k l) (all_minimum _ h)
      | inr m ↦ absurd (beyond k m h)
    ],
  )

  pub far_bits : (k : ℕ) → Decides (has (report_of w).far k) (InSome w k)
  unfolding report_of
  far_bits k = (
    λ e. elim (or_fold_some (Minimum w) k 0 (minimum_cuts w) e (all_minimum (Minimum w) (λ s h. h))) [
      | inl z ↦ absurd (both_ways _ (has_zero k) z)
      | inr r ↦ r
    ],
    λ r. elim (cases_Bool (has (report_of w).far k)) [
      | inl q ↦ q
      | inr q ↦ absurd (both_ways _ (minimum_all _ (or_fold_parts k 0 (minimum_cuts w) q).1 r.0 r.1) r.2)
    ],
  )

  -- what is outside the far side is in no minimum cut
  pub far_out : (k : ℕ) → Decides (not (has (report_of w).far k)) ((s : ℕ) → Minimum w s → has s k ≡ false)
  far_out k = (
    λ e s h. elim (cases_Bool (has s k)) [ inl q ↦ absurd (both_ways _ (not-true _ e) ((far_bits k).1 (s, h, q))) | inr q ↦ q ],
    λ h. elim (cases_Bool (has (report_of w).far k)) [
      | inl q ↦ let r = (far_bits k).0 q in absurd (both_ways _ (h r.0 r.1) r.2)
      | inr q ↦ not_from_false _ q
    ],
  )

-- the report of a network that a sheet can describe fits its fields
module _ (w : Network) (sound : Sound w) where
  pub value_small : (report_of w).value ≤ 30720000
  value_small = omega (
    arith,
    value_is w,
    least_le w (2 ^ w.pump) (pump_alone w sound.wired),
    capacity_le (2 ^ w.pump) w.pipes,
    sum_by_le (λ p. p.limit) 60000 w.pipes (All-weaker Limited (λ p. p.limit ≤ 60000) (λ p h. h.few) w.pipes sound.limited),
    sound.held,
  )
