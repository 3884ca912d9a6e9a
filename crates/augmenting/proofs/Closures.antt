-- Sets that spread over residual steps, and when they are closures.
use Rattle.std.proofs.Common.{◌≡◌, ℕ, ◌+◌, ◌^◌, ◌<◌, ◌≤◌, true, false, List, get_or, sym, refl, ap, ◌∙◌, subst, inl, inr, arith}
use lib.Bits.{bit_or, or_add_and}
use Rattle.std.proofs.lemmas.Nat.{pow_below, or_lt, and_le_r}
use Rattle.std.proofs.lemmas.Bool.{cases_eq, or_cases, or_left, or_right, both_ways}
use Rattle.network.specs.declared.step.Direction.{Direction}
use Rattle.network.specs.declared.step.Direction.TheVariants.{Along, Against}
use Rattle.network.specs.declared.step.Step.{Step}
use Rattle.network.specs.declared.table.Table.{Table}
use Rattle.network.specs.Cuts.{has}
use Rattle.network.specs.Network.{Pipe, Network}
use Rattle.network.specs.Pipes.{pipe_of, network_of, flow_of}
use Rattle.network.specs.Reaches.{Edge, Reaches, here, on, Reached}
use Rattle.network.specs.Residual.{tail, head, weight_by, Residual}
use Rattle.network.proofs.Reached.{sealed_reach, reach_step}
use Rattle.network.proofs.Words.{has_or, has_power, has_other}
use Rattle.paths.proofs.Tables.{read_row, size_is, pipe_is, weight_read, ends_read}
use Rattle.augmenting.specs.Closures.{Connects, Closure, near_by, far_by, near_end, far_end, From, Spread, Crossed}

module _ (w : Network) (f : List ℕ) where
  edge : (s : Step) → Residual w f s → Edge w f (tail w s) (head w s)
  edge s r = record { step = s; residual = r; starts = refl; ends = refl }

  connects_here : (sense : Direction) (a : ℕ) → Connects sense w f a a
  connects_here Along a = here
  connects_here Against a = here

  connects_step : (sense : Direction) (a : ℕ) (s : Step) → Residual w f s → Connects sense w f a (near_end sense w s) → Connects sense w f a (far_end sense w s)
  connects_step Along a s r c = reach_step w f c (edge s r)
  connects_step Against a s r c = on (edge s r) c

  -- a set that no residual step leaves in this sense holds what its junctions are connected to
  closed_holds : (sense : Direction) (s : ℕ) → ((st : Step) → Crossed sense w f s s st) → (a k : ℕ) → Connects sense w f a k → has s a ≡ true → has s k ≡ true
  closed_holds Along s closed a k c e = sealed_reach w f s (λ x y st h. rw (← st.ends) (closed st.step st.residual (rw st.starts h))) c e
  closed_holds Against s closed a k c e = back c e
    where
      back : {x y : ℕ} → Reaches w f x y → has s y ≡ true → has s x ≡ true
      back here h = h
      back (on st r) h = rw (← st.starts) (closed st.step st.residual (rw st.ends (back r h)))

module _ (sense : Direction) (w : Network) (f : List ℕ) where
  pub spread_none : (s : ℕ) → Spread sense w f s s
  spread_none s = record { inside = λ h. h; grows = omega arith; keeps = λ k h. h; from = λ a h. h }

  pub spread_on : (s t u : ℕ) → Spread sense w f s t → Spread sense w f t u → Spread sense w f s u
  spread_on s t u x y = record {
    inside = λ h. y.inside (x.inside h);
    grows = omega (arith, x.grows, y.grows);
    keeps = λ k h. y.keeps k (x.keeps k h);
    from = λ a h. y.from a (x.from a h);
  }

  -- over one step
  pub spread_step : (s : ℕ) (st : Step) → Residual w f st → far_end sense w st < w.junctions → has s (near_end sense w st) ≡ true → Spread sense w f s (bit_or s (2 ^ far_end sense w st))
  spread_step s st r l near = record {
    inside = λ h. or_lt w.junctions s (2 ^ far_end sense w st) h (pow_below (far_end sense w st) w.junctions l);
    grows = omega (arith, or_add_and s (2 ^ far_end sense w st), and_le_r s (2 ^ far_end sense w st));
    keeps = λ k h. has_or s (2 ^ far_end sense w st) k ∙ or_left _ _ h;
    from = λ a h k e. elim (or_cases (has s k) (has (2 ^ far_end sense w st) k) (sym (has_or s (2 ^ far_end sense w st) k) ∙ e)) [
      | inl q ↦ h k q
      | inr q ↦ elim (cases_eq (far_end sense w st) k) [
        | inl same ↦ subst (λ (x : ℕ). Connects sense w f a x) same (connects_step w f sense a st r (h (near_end sense w st) near))
        | inr d ↦ absurd (both_ways _ (has_other (far_end sense w st) k d) q)
      ]
    ];
  }

  pub step_crossed : (s : ℕ) (st : Step) → Crossed sense w f s (bit_or s (2 ^ far_end sense w st)) st
  step_crossed s st r h = has_or s (2 ^ far_end sense w st) (far_end sense w st) ∙ or_right _ _ (has_power (far_end sense w st))

  -- what was crossed stays so in larger sets, and from smaller ones
  pub crossed_later : (s t u : ℕ) (st : Step) → Crossed sense w f s t st → Spread sense w f t u → Crossed sense w f s u st
  crossed_later s t u st c x r h = x.keeps (far_end sense w st) (c r h)

  pub crossed_earlier : (s t u : ℕ) (st : Step) → Spread sense w f s t → Crossed sense w f t u st → Crossed sense w f s u st
  crossed_earlier s t u st x c r h = c r (x.keeps (near_end sense w st) h)

  pub from_start : (a : ℕ) → From sense w f a (2 ^ a)
  from_start a k e = elim (cases_eq a k) [
    | inl same ↦ subst (λ (x : ℕ). Connects sense w f a x) same (connects_here w f sense a)
    | inr d ↦ absurd (both_ways _ (has_other a k d) e)
  ]

  -- a set with a that is connected and no longer spreads
  pub closure_is : (a s : ℕ) → s < 2 ^ w.junctions → has s a ≡ true → From sense w f a s → ((st : Step) → Crossed sense w f s s st) → Closure sense w f a s
  closure_is a s l e from closed = record {
    inside = l;
    bits = λ k h. (λ q. from k q, λ c. closed_holds w f sense s closed a k c e);
  }

-- a table's steps
module _ (t : Table) (sense : Direction) (s : Step) (h : s.pipe < t.count) where
  pub near_is : near_end sense (network_of t) s ≡ near_by sense s.direction (pipe_of (get_or t.rows s.pipe read_row))
  near_is = ap (λ (p : Pipe). near_by sense s.direction p) (pipe_is t s.pipe h)

  pub far_is : far_end sense (network_of t) s ≡ far_by sense s.direction (pipe_of (get_or t.rows s.pipe read_row))
  far_is = ap (λ (p : Pipe). far_by sense s.direction p) (pipe_is t s.pipe h)

  pub ends_in : (near_by sense s.direction (pipe_of (get_or t.rows s.pipe read_row)) < t.junctions) × (far_by sense s.direction (pipe_of (get_or t.rows s.pipe read_row)) < t.junctions)
  ends_in = go sense
    where
      go : (y : Direction) → (near_by y s.direction (pipe_of (get_or t.rows s.pipe read_row)) < t.junctions) × (far_by y s.direction (pipe_of (get_or t.rows s.pipe read_row)) < t.junctions)
      go Along = let e = ends_read t s.direction s.pipe h in (e.0, e.1)
      go Against = let e = ends_read t s.direction s.pipe h in (e.1, e.0)

  module _ (seen near weight : ℕ) (near-eq : near ≡ near_by sense s.direction (pipe_of (get_or t.rows s.pipe read_row))) (weight-eq : weight ≡ weight_by s.direction (pipe_of (get_or t.rows s.pipe read_row)) (get_or t.rows s.pipe read_row).flow) where
    heavy : Residual (network_of t) (flow_of t) s → 0 < weight
    heavy r = omega (arith, r.heavy, weight_read t s h _ refl)

    residual : 0 < weight → Residual (network_of t) (flow_of t) s
    residual l = record { inside = omega (arith, size_is t); heavy = omega (arith, weight_read t s h _ refl) }

    -- a step that is residual, with its near end in the set
    pub crosses : (far x : ℕ) → far ≡ far_by sense s.direction (pipe_of (get_or t.rows s.pipe read_row)) → x ≡ 2 ^ far → 0 < weight → has seen near ≡ true →
        Spread sense (network_of t) (flow_of t) seen (bit_or seen x) × Crossed sense (network_of t) (flow_of t) seen (bit_or seen x) s
    crosses far x far-eq e l q =
        let full : x ≡ 2 ^ far_end sense (network_of t) s = e ∙ ap (λ (n : ℕ). 2 ^ n) (far-eq ∙ sym far_is) in
        let onto : far_end sense (network_of t) s < t.junctions = omega (arith, far_is, ends_in.1) in
        rw full (
          spread_step sense (network_of t) (flow_of t) seen s (residual l) onto (ap (λ (n : ℕ). has seen n) (near_is ∙ sym near-eq) ∙ q),
          step_crossed sense (network_of t) (flow_of t) seen s,
        )

    -- or one of the two is not so
    pub stays_light : weight ≤ 0 → Crossed sense (network_of t) (flow_of t) seen seen s
    stays_light l r q = absurd (omega (arith, heavy r))

    pub stays_out : has seen near ≡ false → Crossed sense (network_of t) (flow_of t) seen seen s
    stays_out e r q = absurd (both_ways (has seen near) e (ap (λ (n : ℕ). has seen n) (near-eq ∙ sym near_is) ∙ q))

-- both steps of one pipe more
module _ (sense : Direction) (w : Network) (f : List ℕ) (s t u v k : ℕ) (st : Spread sense w f s t) (tu : Spread sense w f t u) (uv : Spread sense w f u v)
    (along : Crossed sense w f t u (record { pipe = k; direction = Along })) (against : Crossed sense w f u v (record { pipe = k; direction = Against })) where
  pub spread_more : Spread sense w f s v
  spread_more = spread_on sense w f s u v (spread_on sense w f s t u st tu) uv

  either : (d : Direction) → Crossed sense w f s v (record { pipe = k; direction = d })
  either Along = crossed_later sense w f s u v _ (crossed_earlier sense w f s t u _ st along) uv
  either Against = crossed_earlier sense w f s u v _ (spread_on sense w f s t u st tu) against

  pub crossed_more : ((x : Step) → x.pipe < k → Crossed sense w f s t x) → (x : Step) → x.pipe < k + 1 → Crossed sense w f s v x
  crossed_more old x h = elim (cases_eq x.pipe k) [
    | inl q ↦ subst (λ (j : ℕ). Crossed sense w f s v (record { pipe = j; direction = x.direction })) (sym q) (either x.direction)
    | inr d ↦ crossed_later sense w f s u v x (crossed_later sense w f s t u x (old x (omega arith)) tu) uv
  ]

-- Along, the closure is what is reached
pub closure_reached : (w : Network) (f : List ℕ) (a s : ℕ) → Closure Along w f a s → Reached w f a s
closure_reached w f a s c = record { inside = c.inside; bits = c.bits }
