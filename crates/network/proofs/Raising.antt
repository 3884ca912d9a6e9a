-- Which pipes govern; when one minimum cut is all; when two reports agree.
use Rattle.std.proofs.Common.{◌≡◌, ℕ, ◌+◌, ◌-◌, ◌^◌, ◌<◌, ◌≤◌, Bool, true, false, cond, ◌&&◌, ◌↔◌, ◌<ℤ◌, Decides, sym, refl, ap, ◌∙◌, subst, inl, inr, arith, pow_mono}
use Rattle.std.proofs.lemmas.List.{get_or_past, set_past}
use Rattle.std.proofs.lemmas.Int.{ints}
use Rattle.std.proofs.lemmas.List.Sums.{sum_by-set}
use Rattle.std.proofs.lemmas.Bool.{cases_Bool, cases_lt, and_parts, and_from, not_from_false, not-true, false≢true}
use Rattle.network.specs.declared.report.Report.{Report}
use Rattle.network.specs.declared.valve.Valve.{Valve}
use Rattle.network.specs.declared.valve.Valve.TheVariants.{Open, Closed}
use Rattle.network.specs.Changes.{with_limit, raised}
use Rattle.network.specs.Cuts.{has, Cut, Minimum, leaves, capacity, OneMinimum, SameCuts}
use Rattle.network.specs.Flows.{Flow, value}
use Rattle.network.specs.Governing.{is_open, governing, Raises}
use Rattle.network.specs.Network.{Network, Wired}
use Rattle.network.specs.Reports.{least_capacity, report_of}
use Rattle.network.specs.Residual.{nowhere, pipe, size}
use Rattle.network.specs.Sums.{only}
use Rattle.network.specs.Valves.{room}
use Rattle.network.proofs.Balance.{weak_duality_lem}
use Rattle.network.proofs.Changes.{with_wired, with_cut, cut_with}
use Rattle.network.proofs.Enumerated.{least_le, least_greatest, least_is, is_minimum, value_is, near_bits, far_bits, far_out, near_inside, far_inside, some_minimum}
use Rattle.network.proofs.Greatest.{some_greatest, greatest_value}
use Rattle.network.proofs.Words.{same_word, same_test}

-- pipe k is open and leaves s
abbrev crosses : Network → ℕ → ℕ → Bool
crosses w s k = is_open (pipe w k).valve && leaves (has s) (pipe w k)

room_more : (v : Valve) (b : Bool) (l : ℕ) → only b (room v (l + 1)) ≡ only b (room v l) + cond (is_open v && b) 1 0
room_more Open true l = refl
room_more Open false l = refl
room_more Closed true l = refl
room_more Closed false l = refl

one_le : (b : Bool) → cond b 1 0 ≤ 1
one_le true = omega arith
one_le false = omega arith

module _ (w : Network) (wired : Wired w) (k : ℕ) (here : k < size w) where
  raised_wired : Wired (raised w k)
  raised_wired = with_wired w k here (with_limit (pipe w k) ((pipe w k).limit + 1)) refl refl wired

  raised_capacity : (s : ℕ) → capacity (raised w k) s ≡ capacity w s + cond (crosses w s k) 1 0
  raised_capacity s = omega (
    arith,
    sum_by-set (λ p. only (leaves (has s) p) (room p.valve p.limit)) w.pipes k (with_limit (pipe w k) ((pipe w k).limit + 1)) nowhere here,
    room_more (pipe w k).valve (leaves (has s) (pipe w k)) (pipe w k).limit,
  )

  -- a pipe governs if it crosses every minimum cut
  governs_all : Decides (governing w (report_of w) k) ((s : ℕ) → Minimum w s → crosses w s k ≡ true)
  governs_all = (to, fro)
    where
      to : governing w (report_of w) k ≡ true → (s : ℕ) → Minimum w s → crosses w s k ≡ true
      to e s h =
          let ends = and_parts (is_open (pipe w k).valve) _ e in
          let both = and_parts (has (report_of w).near (pipe w k).from) _ ends.1 in
          and_from _ _ ends.0 (and_from _ _ ((near_bits w wired (pipe w k).from).0 both.0 s h) (not_from_false _ ((far_out w wired (pipe w k).to).0 both.1 s h)))

      fro : ((s : ℕ) → Minimum w s → crosses w s k ≡ true) → governing w (report_of w) k ≡ true
      fro h =
          let some = some_minimum w wired in
          let ends = λ (s : ℕ) (l : Minimum w s). and_parts (is_open (pipe w k).valve) _ (h s l) in
          let both = λ (s : ℕ) (l : Minimum w s). and_parts (has s (pipe w k).from) _ (ends s l).1 in
          and_from _ _ (ends some.0 some.1).0 (and_from _ _ ((near_bits w wired (pipe w k).from).1 (λ s l. (both s l).0))
          ((far_out w wired (pipe w k).to).1 (λ s l. not-true _ (both s l).1)))

  raised_cut : (s : ℕ) → Cut w s → Cut (raised w k) s
  raised_cut = with_cut w k (with_limit (pipe w k) ((pipe w k).limit + 1))

  cut_raised : (s : ℕ) → Cut (raised w k) s → Cut w s
  cut_raised = cut_with w k (with_limit (pipe w k) ((pipe w k).limit + 1))

  raised_least_le : least_capacity (raised w k) ≤ least_capacity w + 1
  raised_least_le =
      let l = least_greatest w wired (least_capacity (raised w k) - 1)
      (λ s c. omega (arith, least_le (raised w k) s (raised_cut s c), raised_capacity s, one_le (crosses w s k))) in
      omega arith

  raised_least_ge : least_capacity w ≤ least_capacity (raised w k)
  raised_least_ge = least_greatest (raised w k) raised_wired (least_capacity w) (λ s c. omega (arith, least_le w s (cut_raised s c), raised_capacity s))

  -- one litre more on a pipe brings one litre more if the pipe governs, else none
  pub raised_least : least_capacity (raised w k) ≡ least_capacity w + cond (governing w (report_of w) k) 1 0
  raised_least = at (governing w (report_of w) k) governs_all.0 governs_all.1
    where
      at : (b : Bool) → (b ≡ true → (s : ℕ) → Minimum w s → crosses w s k ≡ true) → (((s : ℕ) → Minimum w s → crosses w s k ≡ true) → b ≡ true) →
          least_capacity (raised w k) ≡ least_capacity w + cond b 1 0
      at true all some =
          let more : (s : ℕ) → Cut (raised w k) s → least_capacity w + 1 ≤ capacity (raised w k) s = λ s c. elim (cases_lt (least_capacity w) (capacity w s)) [
            | inl lt ↦ omega (arith, raised_capacity s)
            | inr le ↦ omega (arith, raised_capacity s, least_le w s (cut_raised s c), ap (λ b. cond {A = ℕ} b 1 0) (all refl s (is_minimum w s (cut_raised s c) le)))
          ] in
          omega (arith, raised_least_le, least_greatest (raised w k) raised_wired (least_capacity w + 1) more)
      at false all some = elim (cases_lt (least_capacity w) (least_capacity (raised w k))) [
        | inl lt ↦ absurd (false≢true (some (λ s h. elim (cases_Bool (crosses w s k)) [
          | inl q ↦ q
          | inr q ↦ absurd (omega (arith, raised_capacity s, least_is w wired s h, least_le (raised w k) s (raised_cut s h.cut), ap (λ b. cond {A = ℕ} b 1 0) q))
        ])))
        | inr le ↦ omega (arith, raised_least_ge)
      ]

  governs_more : Decides (governing w (report_of w) k) (least_capacity w < least_capacity (raised w k))
  governs_more = at (governing w (report_of w) k) raised_least
    where
      at : (b : Bool) → least_capacity (raised w k) ≡ least_capacity w + cond b 1 0 → Decides b (least_capacity w < least_capacity (raised w k))
      at true e = (λ _. omega arith, λ _. refl)
      at false e = (λ b. absurd (false≢true b), λ l. absurd (omega arith))

  governs_here : Decides (governing w (report_of w) k) (Raises w k)
  governs_here = (to, fro)
    where
      to : governing w (report_of w) k ≡ true → Raises w k
      to e =
          let more = governs_more.0 e in
          let g = some_greatest (raised w k) raised_wired in
          let m = some_minimum w wired in (
            g.0,
            g.1.flow,
            λ f h. omega (
              arith,
              ints,
              more,
              greatest_value (raised w k) raised_wired g.0 g.1,
              weak_duality_lem w wired f h m.0 m.1.cut,
              least_is w wired m.0 m.1,
            ),
          )

      fro : Raises w k → governing w (report_of w) k ≡ true
      fro r =
          let f = some_greatest w wired in
          let m = some_minimum (raised w k) raised_wired in
          governs_more.1 (omega (
            arith,
            ints,
            r.2 f.0 f.1.flow,
            greatest_value w wired f.0 f.1,
            weak_duality_lem (raised w k) raised_wired r.0 r.1 m.0 m.1.cut,
            least_is (raised w k) raised_wired m.0 m.1,
          ))

module _ (w : Network) (wired : Wired w) where
  -- a pipe that does not exist does not govern, and one litre more on it changes nothing
  module _ (k : ℕ) (beyond : size w ≤ k) where
    governs_not : governing w (report_of w) k ≡ true → ⊥
    governs_not e = false≢true (rw (get_or_past w.pipes k nowhere beyond) at e)

    raised_same : raised w k ≡ w
    raised_same = ap (λ ps. record { junctions = w.junctions; pump = w.pump; outlet = w.outlet; pipes = ps })
        (set_past w.pipes k (with_limit (pipe w k) ((pipe w k).limit + 1)) beyond)

    raises_not : Raises w k → ⊥
    raises_not r =
        let flow : Flow w r.0 = subst (λ u. Flow u r.0) raised_same r.1 in
        let more : value w r.0 <ℤ value w r.0 = subst (λ u. value w r.0 <ℤ value u r.0) raised_same (r.2 r.0 flow) in
        omega (arith, ints)

  -- a pipe governs just where one litre more on its limit raises the greatest value, and just where it raises the least capacity
  pub governs_raises : (k : ℕ) → Decides (governing w (report_of w) k) (Raises w k)
  governs_raises k = elim (cases_lt k (size w)) [
    | inl l ↦ governs_here w wired k l
    | inr m ↦ (λ e. absurd (governs_not k m e), λ r. absurd (raises_not k m r))
  ]

  pub governs_least : (k : ℕ) → Decides (governing w (report_of w) k) (least_capacity w < least_capacity (raised w k))
  governs_least k = elim (cases_lt k (size w)) [
    | inl l ↦ governs_more w wired k l
    | inr m ↦ (λ e. absurd (governs_not k m e), λ l. absurd (omega (arith, ap least_capacity (raised_same k m), l)))
  ]

  -- near and far agree just where there is one minimum cut
  pub one_minimum : ((report_of w).near ≡ (report_of w).far) ↔ OneMinimum w
  one_minimum = (λ e. let some = some_minimum w wired in (some.0, some.1, λ t h. is_near e t h ∙ sym (is_near e some.0 some.1)), agree)
    where
      is_near : (report_of w).near ≡ (report_of w).far → (s : ℕ) → Minimum w s → s ≡ (report_of w).near
      is_near e s h = same_word w.junctions s _ h.cut.inside (near_inside w) (λ k l. same_test _ _
          (λ b. rw e ((far_bits w wired k).1 (s, h, b))) (λ b. (near_bits w wired k).0 b s h))

      agree : OneMinimum w → (report_of w).near ≡ (report_of w).far
      agree one = same_word w.junctions _ _ (near_inside w) (far_inside w wired) (λ k l. same_test _ _
          (λ b. (far_bits w wired k).1 (one.0, one.1, (near_bits w wired k).0 b one.0 one.1))
          (λ b. let some = (far_bits w wired k).0 b in
          (near_bits w wired k).1 (λ s h. rw (one.2 s h, ← one.2 some.0 some.1) some.2)))

-- a word of so many junctions fits more
fits_left : (n m s : ℕ) → s < 2 ^ n → s < 2 ^ (n + m)
fits_left n m s l = let h : n ≤ n + m = omega arith in omega (arith, l, pow_mono h)

fits_right : (n m s : ℕ) → s < 2 ^ m → s < 2 ^ (n + m)
fits_right n m s l = let h : m ≤ n + m = omega arith in omega (arith, l, pow_mono h)

-- two reports agree just where the least capacities do, and the junctions of every minimum cut, and those of at least one
pub same_report_lem : (w u : Network) → Wired w → Wired u → (report_of w ≡ report_of u) ↔ SameCuts w u
same_report_lem w u w-wired u-wired = (to, fro)
  where
    to : report_of w ≡ report_of u → SameCuts w u
    to e = record {
      capacities = λ s t h g. least_is w w-wired s h ∙ sym (value_is w) ∙ ap (λ (r : Report). r.value) e ∙ value_is u ∙ sym (least_is u u-wired t g);
      every = λ k. (
        λ h. (near_bits u u-wired k).0 (rw (ap (λ (r : Report). r.near) e) at ((near_bits w w-wired k).1 h)),
        λ h. (near_bits w w-wired k).0 (rw (sym (ap (λ (r : Report). r.near) e)) at ((near_bits u u-wired k).1 h)),
      );
      some = λ k. (
        λ h. (far_bits u u-wired k).0 (rw (ap (λ (r : Report). r.far) e) at ((far_bits w w-wired k).1 h)),
        λ h. (far_bits w w-wired k).0 (rw (sym (ap (λ (r : Report). r.far) e)) at ((far_bits u u-wired k).1 h)),
      );
    }

    fro : SameCuts w u → report_of w ≡ report_of u
    fro c = λ i. record { value = values i; near = nears i; far = fars i }
      where
        values : (report_of w).value ≡ (report_of u).value
        values =
            let m = some_minimum w w-wired in
            let n = some_minimum u u-wired in
            value_is w ∙ sym (least_is w w-wired m.0 m.1) ∙ c.capacities m.0 n.0 m.1 n.1 ∙ least_is u u-wired n.0 n.1 ∙ sym (value_is u)

        nears : (report_of w).near ≡ (report_of u).near
        nears = same_word (w.junctions + u.junctions) _ _ (fits_left _ _ _ (near_inside w)) (fits_right _ _ _ (near_inside u)) (λ k l. same_test _ _
            (λ e. (near_bits u u-wired k).1 ((c.every k).0 ((near_bits w w-wired k).0 e)))
            (λ e. (near_bits w w-wired k).1 ((c.every k).1 ((near_bits u u-wired k).0 e))))

        fars : (report_of w).far ≡ (report_of u).far
        fars = same_word (w.junctions + u.junctions) _ _ (fits_left _ _ _ (far_inside w w-wired)) (fits_right _ _ _ (far_inside u u-wired)) (λ k l. same_test _ _
            (λ e. (far_bits u u-wired k).1 ((c.some k).0 ((far_bits w w-wired k).0 e)))
            (λ e. (far_bits w w-wired k).1 ((c.some k).1 ((far_bits u u-wired k).0 e))))
