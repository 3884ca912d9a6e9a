-- An amount led from one junction to another, and a torn flow mended by it.
use Rattle.std.proofs.Common.{◌≡◌, ℕ, ◌+◌, ◌-◌, ◌<◌, ◌≤◌, true, false, eqb, ◌⊎◌, List, pos, sym, refl, ap, ◌∙◌, subst, inl, inr, arith}
use Rattle.std.proofs.lemmas.Bool.{cases_lt, cases_eq, cases_Bool}
use Rattle.network.specs.Cuts.{has, Cut}
use Rattle.network.specs.Flows.{Within, Flow, value, Greatest}
use Rattle.network.specs.Network.{Network, Wired}
use Rattle.network.specs.Pushing.{Shifts}
use Rattle.network.specs.Reaches.{here, Sealed, Reached}
use Rattle.network.specs.Repair.{Torn}
use Rattle.network.proofs.Reached.{reached_set, is_reached, reached_sealed, reaches_path}
use Rattle.network.proofs.Repair.{shifts_none, shifts_again, torn_over, torn_back, torn_forth, torn_flow, torn_value, torn_cut, torn_leads_back, torn_leads_forth, torn_greatest, cut_off}
use Rattle.network.proofs.Totals.{only_zero}
use Rattle.interface.specs.Augmentations.{NoPath, Leads, none_led, some_led, Returns, at_home, led_back, Mends}
use Rattle.augmenting.specs.Legs.{GivesBack}
use Rattle.augmenting.proofs.Weights.{augmented_most, augmented_within, augmented_shifts, augmented_sealed}

-- something remains at i and no other way leads to j: the junctions that i reaches are a cut, which no leading back crosses
pub record Blocked (w : Network) (f : List ℕ) (i j v e : ℕ) : Type 0 where
  pub side : ℕ
  pub sealed : Sealed w f side
  pub i_has : has side i ≡ true
  pub j_not : has side j ≡ false
  pub cut : Cut w side
  pub fits : e ≤ v

module _ (w : Network) (wired : Wired w) (i j : ℕ) (i-in : i < w.junctions) (j-in : j < w.junctions) (v : ℕ)
    (f : List ℕ) (e : ℕ) (torn : Torn w f i j v v e e) (some : 0 < e) (none : NoPath w f i j) where
  reached : Reached w f i (reached_set w wired f i i-in)
  reached = is_reached w wired f i i-in

  j_out : has (reached_set w wired f i i-in) j ≡ false
  j_out = elim (cases_Bool (has (reached_set w wired f i i-in) j)) [
    | inl t ↦ let p = reaches_path w wired f i i-in j ((reached.bits j j-in).0 t) in absurd (none p.0 p.1)
    | inr n ↦ n
  ]

  pub blocked : Blocked w f i j v e
  blocked =
      let sealed = reached_sealed w wired f i (reached_set w wired f i i-in) reached in
      let i_has = (reached.bits i i-in).1 here in
      let cut = torn_cut w wired i j i-in j-in f (reached_set w wired f i i-in) sealed i_has j_out v e torn some reached.inside in
      record { side = reached_set w wired f i i-in; sealed = sealed; i_has = i_has; j_not = j_out; cut = cut.0; fits = omega (arith, cut.1) }

  -- a flow of e less is then greatest
  pub blocked_greatest : (g : List ℕ) → Flow w g → value w g ≡ pos (v - e) → Greatest w g
  blocked_greatest g flow worth =
      (torn_greatest w wired i j i-in j-in f (reached_set w wired f i i-in) (reached_sealed w wired f i (reached_set w wired f i i-in) reached) ((reached.bits i i-in).1 here) j_out
      v e (v - e) torn some reached.inside (omega (arith, blocked.fits)) g flow worth).0

module _ {Λ : Type 0} {good : Λ → Λ → Type 0} {start : Λ} {extended : Λ → ℕ → Λ} (w : Network) where
  module _ (a b d : ℕ) (f : List ℕ) where
    -- each augmentation leads a litre at least
    pub leads_few : (n e : ℕ) (g : List ℕ) → Leads w good start extended a b d f n e g → n + e ≤ d
    leads_few _ _ _ none_led = omega arith
    leads_few _ _ _ (some_led {n} {e} {c} {g} {h} l aug) = omega (arith, leads_few n e g l, aug.some, augmented_most w a b e g c h aug)

    pub leads_within : (n e : ℕ) (g : List ℕ) → Leads w good start extended a b d f n e g → Within w f → Within w g
    leads_within _ _ _ none_led h = h
    leads_within _ _ _ (some_led {n} {e} {c} {g} {h} l aug) i = augmented_within w a b e g c h aug (leads_within n e g l i)

    pub leads_shifts : (n e : ℕ) (g : List ℕ) → Leads w good start extended a b d f n e g → Within w f → (x : ℕ) → x + e ≡ d → Shifts w f g a b x
    leads_shifts _ _ _ none_led h x q = let z : x ≡ 0 = omega arith in subst (λ (y : ℕ). Shifts w f f a b y) (sym z) (λ j. omega (arith, only_zero (eqb a j), only_zero (eqb b j)))
    leads_shifts _ _ _ (some_led {n} {e} {c} {g} {h} l aug) i x q =
        let few = leads_few n e g l in
        let most = augmented_most w a b e g c h aug in
        let y : (d - e) + c ≡ x = omega arith in
        subst (λ (y : ℕ). Shifts w f h a b y) y
        (shifts_again w f g h a b (d - e) c (leads_shifts n e g l i (d - e) (omega arith)) (augmented_shifts w a b e g c h aug (leads_within n e g l i)))

    pub leads_sealed : (n e : ℕ) (g : List ℕ) → Leads w good start extended a b d f n e g → (u : ℕ) → Sealed w f u → has u a ≡ has u b → Sealed w g u
    leads_sealed _ _ _ none_led u h q = h
    leads_sealed _ _ _ (some_led {n} {e} {c} {g} {h} l aug) u i q = augmented_sealed w a b e g c h aug u (leads_sealed n e g l u i q) q

    pub returns_within : (n : ℕ) (g : List ℕ) → Returns w good start extended a b d f n g → Within w f → Within w g
    returns_within _ _ (at_home e) h = h
    returns_within n g (led_back e l) h = leads_within n 0 g l h

    pub returns_shifts : (n : ℕ) (g : List ℕ) → Returns w good start extended a b d f n g → Within w f → Shifts w f g a b d
    returns_shifts _ _ (at_home e) h = subst (λ (x : ℕ). Shifts w f f a x d) e (shifts_none w f a d)
    returns_shifts n g (led_back e l) h = leads_shifts n 0 g l h d (omega arith)

  pub returns_sealed : (a b d : ℕ) (f : List ℕ) (n : ℕ) (g : List ℕ) → Returns w good start extended a b d f n g → (u : ℕ) → Sealed w f u → has u a ≡ has u b → Sealed w g u
  returns_sealed a b d f _ _ (at_home e) u h q = h
  returns_sealed a b d f n g (led_back e l) u h q = leads_sealed a b d f n 0 g l u h q

  module _ (wired : Wired w) (i j : ℕ) (i-in : i < w.junctions) (j-in : j < w.junctions) (v : ℕ) where
    module _ (f : List ℕ) (e : ℕ) (torn : Torn w f i j v v e e) (b : Blocked w f i j v e) where
      -- what remains at i is led back to the pump in full
      pub all_back : (n r : ℕ) (g : List ℕ) → Leads w good start extended i w.pump e f n r g → (0 < r → NoPath w g i w.pump) → r ≡ 0
      all_back n r g l blocked = elim (cases_lt 0 r) [
        | inl q ↦ let p = reaches_path w wired g i i-in w.pump (torn_leads_back w wired i j i-in j-in g
            (cut_off w wired i j i-in j-in g b.side (leads_sealed i w.pump e f n r g l b.side b.sealed (b.i_has ∙ sym b.cut.pump_in)) b.i_has b.j_not)
            (v - (e - r)) v r e now_torn q) in absurd (blocked q p.0 p.1)
        | inr q ↦ omega arith
      ]
        where
          few : n + r ≤ e
          few = leads_few i w.pump e f n r g l

          now_torn : Torn w g i j (v - (e - r)) v r e
          now_torn =
              torn_back w wired i j f g v v e e (v - (e - r)) 0 r 0 (e - r) (leads_within i w.pump e f n r g l torn.within) torn
              (leads_shifts i w.pump e f n r g l torn.within (e - r) (omega (arith, few))) (omega (arith, few, b.fits)) (omega (arith, few))

      module _ (m : ℕ) (h : List ℕ) (back : Returns w good start extended i w.pump e f m h) where
        still_sealed : Sealed w h b.side
        still_sealed = returns_sealed i w.pump e f m h back b.side b.sealed (b.i_has ∙ sym b.cut.pump_in)

        -- and what is lacking at j is taken from the outlet in full
        pub all_forth : (n r : ℕ) (g : List ℕ) → Leads w good start extended w.outlet j e h n r g → (0 < r → NoPath w g w.outlet j) → r ≡ 0
        all_forth n r g l blocked = elim (cases_lt 0 r) [
          | inl q ↦ let p = reaches_path w wired g w.outlet wired.outlet_in j (torn_leads_forth w wired i j i-in j-in g
              (cut_off w wired i j i-in j-in g b.side (leads_sealed w.outlet j e h n r g l b.side still_sealed (b.cut.outlet_out ∙ sym b.j_not)) b.i_has b.j_not)
              (v - e) (v - (e - r)) 0 r now_torn q) in absurd (blocked q p.0 p.1)
          | inr q ↦ omega arith
        ]
          where
            few : n + r ≤ e
            few = leads_few w.outlet j e h n r g l

            within : Within w h
            within = returns_within i w.pump e f m h back torn.within

            given_back : Torn w h i j (v - e) v 0 e
            given_back =
                torn_back w wired i j f h v v e e (v - e) 0 0 0 e within torn (returns_shifts i w.pump e f m h back torn.within) (omega (arith, b.fits)) (omega arith)

            now_torn : Torn w g i j (v - e) (v - (e - r)) 0 r
            now_torn =
                torn_forth w wired i j h g (v - e) v 0 e 0 (v - (e - r)) 0 r (e - r) (leads_within w.outlet j e h n r g l within) given_back
                (leads_shifts w.outlet j e h n r g l within (e - r) (omega (arith, few))) (omega (arith, few, b.fits)) (omega (arith, few))

    -- a mended flow has the value that it had before it was torn, or it is greatest
    pub repaired : (d : ℕ) (f : List ℕ) → Torn w f i j v v d d → (n : ℕ) (g : List ℕ) → Mends w good start extended i j d f n g → Flow w g × ((value w g ≡ pos v) ⊎ Greatest w g)
    repaired d f torn n g m = elim (cases_lt 0 m.rest) [
      | inl some ↦ (mended_flow fits, inr (blocked_greatest w wired i j i-in j-in v m.led m.rest led_torn some (m.no_other_way some) g (mended_flow fits) (mended_worth fits)))
      | inr none ↦ (mended_flow (omega (arith, none)), inl (mended_worth (omega (arith, none)) ∙ ap pos (let z : v - m.rest ≡ v = omega (arith, none) in z)))
    ]
      where
        few : m.round + m.rest ≤ d
        few = leads_few i j d f m.round m.rest m.led m.by_other_ways

        led_torn : Torn w m.led i j v v m.rest m.rest
        led_torn =
            torn_over w wired i j f m.led v v d d 0 0 m.rest m.rest (d - m.rest) (leads_within i j d f m.round m.rest m.led m.by_other_ways torn.within) torn
            (leads_shifts i j d f m.round m.rest m.led m.by_other_ways torn.within (d - m.rest) (omega (arith, few))) (omega (arith, few)) (omega (arith, few))

        fits : m.rest ≤ v
        fits = elim (cases_lt 0 m.rest) [
          | inl some ↦ (blocked w wired i j i-in j-in v m.led m.rest led_torn some (m.no_other_way some)).fits
          | inr none ↦ omega (arith, none)
        ]

        back_within : Within w m.returned
        back_within = returns_within i w.pump m.rest m.led m.back m.returned m.to_pump led_torn.within

        whole : m.rest ≤ v → Torn w g i j (v - m.rest) (v - m.rest) 0 0
        whole le =
            let t : Torn w m.returned i j (v - m.rest) v 0 m.rest =
            torn_back w wired i j m.led m.returned v v m.rest m.rest (v - m.rest) 0 0 0 m.rest back_within led_torn
            (returns_shifts i w.pump m.rest m.led m.back m.returned m.to_pump led_torn.within) (omega (arith, le)) (omega arith) in
            torn_forth w wired i j m.returned g (v - m.rest) v 0 m.rest 0 (v - m.rest) 0 0 m.rest
            (returns_within w.outlet j m.rest m.returned m.forth g m.from_outlet back_within) t
            (returns_shifts w.outlet j m.rest m.returned m.forth g m.from_outlet back_within) (omega (arith, le)) (omega arith)

        mended_flow : m.rest ≤ v → Flow w g
        mended_flow le = torn_flow w wired i j g (v - m.rest) (whole le)

        mended_worth : m.rest ≤ v → value w g ≡ pos (v - m.rest)
        mended_worth le = torn_value w wired i j g (v - m.rest) (whole le)

    -- what is given back is given back in full, so the flow is mended
    module _ (d : ℕ) (f : List ℕ) (torn : Torn w f i j v v d d) (n : ℕ) (e : ℕ) (g : List ℕ) (led : Leads w good start extended i j d f n e g) (none : 0 < e → NoPath w g i j) where
      led_torn : Torn w g i j v v e e
      led_torn =
          let few = leads_few i j d f n e g led in
          torn_over w wired i j f g v v d d 0 0 e e (d - e) (leads_within i j d f n e g led torn.within) torn
          (leads_shifts i j d f n e g led torn.within (d - e) (omega arith)) (omega arith) (omega arith)

      block : 0 < e → Blocked w g i j v e
      block some = blocked w wired i j i-in j-in v g e led_torn some (none some)

      gives_returns : (a b : ℕ) (h : List ℕ) (m : ℕ) (k : List ℕ) → GivesBack w good start extended a b e h m k
          → (0 < e → (r : ℕ) → Leads w good start extended a b e h m r k → (0 < r → NoPath w k a b) → r ≡ 0) → Returns w good start extended a b e h m k
      gives_returns a b h m k gives all = elim (cases_eq a b) [
        | inl q ↦ let z = gives.at_one q in
            subst (λ (x : List ℕ). Returns w good start extended a b e h m x) (sym z.1) (subst (λ (x : ℕ). Returns w good start extended a b e h x h) (sym z.0) (at_home q))
        | inr q ↦ let z = gives.between q in
            let nothing : z.0 ≡ 0 = elim (cases_lt 0 e) [ inl some ↦ all some z.0 z.1 z.2 | inr rest ↦ omega (arith, leads_few a b e h m z.0 k z.1) ] in
            led_back q (subst (λ (x : ℕ). Leads w good start extended a b e h m x k) nothing z.1)
      ]

      pub mends : (m : ℕ) (h : List ℕ) → GivesBack w good start extended i w.pump e g m h → (o : ℕ) (k : List ℕ) → GivesBack w good start extended w.outlet j e h o k
          → Mends w good start extended i j d f (n + m + o) k
      mends m h back o k forth =
          let returned = gives_returns i w.pump g m h back (λ some r l p. all_back g e led_torn (block some) m r h l p) in
          record {
            round = n;
            back = m;
            forth = o;
            rest = e;
            led = g;
            returned = h;
            by_other_ways = led;
            no_other_way = none;
            to_pump = returned;
            from_outlet = gives_returns w.outlet j h o k forth (λ some r l p. all_forth g e led_torn (block some) m h returned o r k l p);
            counts = refl;
          }
