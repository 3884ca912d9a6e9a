-- Which junctions are reached: the sets of those, and paths to them.
use Rattle.std.proofs.Common.{◌≡◌, ℕ, zero, suc, ◌+◌, ◌^◌, ◌<◌, ◌≤◌, Bool, true, false, not, ◌≢◌, ◌⊎◌, List, [], ◌∷◌, Decides, sym, refl, ◌∙◌, inl, inr, arith}
use lib.Bits.{bit_or}
use Rattle.std.specs.List.{AllByRecursion}
use Rattle.std.proofs.lemmas.Nat.{pow_below, or_lt}
use Rattle.std.proofs.ByRecursion.{All-weaker}
use Rattle.std.proofs.lemmas.Bool.{cases_Bool, cases_eq, cases_lt, or_cases, or_left, or_right, not_from_false, not-true, both_ways}
use Rattle.network.specs.declared.step.Direction.{Direction}
use Rattle.network.specs.declared.step.Direction.TheVariants.{Along, Against}
use Rattle.network.specs.declared.step.Step.{Step}
use Rattle.network.specs.Cuts.{has}
use Rattle.network.specs.Network.{Pipe, Network, Wired, Joins}
use Rattle.network.specs.Paths.{Path}
use Rattle.network.specs.Reaches.{Edge, Reaches, here, on, Sealed, Reached, Apart}
use Rattle.network.specs.Residual.{pipe, size, tail, head, weight, start_by, end_by}
use Rattle.network.proofs.Balance.{joins}
use Rattle.network.proofs.Words.{has_or, has_power, has_other, or_more, word_of}

module _ (w : Network) (f : List ℕ) where
  -- a sealed set holds what its junctions reach
  pub sealed_reach : (s : ℕ) → Sealed w f s → {a b : ℕ} → Reaches w f a b → has s a ≡ true → has s b ≡ true
  sealed_reach s cl here e = e
  sealed_reach s cl (on {a} {b} st r) e = sealed_reach s cl r (cl a b st e)

  pub reach_step : {a b c : ℕ} → Reaches w f a b → Edge w f b c → Reaches w f a c
  reach_step here st = on st here
  reach_step (on s r) st = on s (reach_step r st)

  pub path_reaches : (a : ℕ) (ss : List Step) (b : ℕ) → Path w f a ss b → Reaches w f a b
  path_reaches a [] b p = rw p here
  path_reaches a (s ∷ ss) b p = reach_step (path_reaches a ss (tail w s) p.3) (record { step = s; residual = p.0; starts = refl; ends = p.1 })

  -- a sealed set that has a, and only what a reaches
  pub reached_from : (a s : ℕ) → s < 2 ^ w.junctions → has s a ≡ true → Sealed w f s → ((k : ℕ) → has s k ≡ true → Reaches w f a k) → Reached w f a s
  reached_from a s l start cl reach = record { inside = l; bits = λ k _. (reach k, λ r. sealed_reach s cl r start) }

start_in : (n : ℕ) (p : Pipe) → Joins n p → (y : Direction) → start_by y p < n
start_in n p j Along = j.from_in
start_in n p j Against = j.to_in

end_in : (n : ℕ) (p : Pipe) → Joins n p → (y : Direction) → end_by y p < n
end_in n p j Along = j.to_in
end_in n p j Against = j.from_in

module _ (w : Network) (wired : Wired w) (f : List ℕ) where
  edge_tail : (a b : ℕ) → Edge w f a b → a < w.junctions
  edge_tail a b st = rw (← st.starts) (start_in w.junctions (pipe w st.step.pipe) (joins w wired st.step.pipe st.residual.inside) st.step.direction)

  edge_head : (a b : ℕ) → Edge w f a b → b < w.junctions
  edge_head a b st = rw (← st.ends) (end_in w.junctions (pipe w st.step.pipe) (joins w wired st.step.pipe st.residual.inside) st.step.direction)

  pub reached_sealed : (a s : ℕ) → Reached w f a s → Sealed w f s
  reached_sealed a s n b c st e = (n.bits c (edge_head b c st)).1 (reach_step w f ((n.bits b (edge_tail b c st)).0 e) st)

  pub apart_sealed : (b s : ℕ) → Apart w f b s → Sealed w f s
  apart_sealed b s n a c st e = elim (cases_Bool (has s c)) [
    | inl q ↦ q
    | inr q ↦ absurd (both_ways (has s a) (not-true _ ((n.bits a (edge_tail a c st)).1 (on st ((n.bits c (edge_head a c st)).0 (not_from_false _ q))))) e)
  ]

-- a step out of the set
record Out (w : Network) (f : List ℕ) (s : ℕ) : Type 0 where
  from : ℕ
  to : ℕ
  edge : Edge w f from to
  inside : has s from ≡ true
  outside : has s to ≡ false

-- a set is sealed, or a step leads out of it
module _ (w : Network) (f : List ℕ) (s : ℕ) where
  Safe : ℕ → Direction → Type 0
  Safe k y =
      let st : Step = record { pipe = k; direction = y } in
      0 < weight w f st → has s (tail w st) ≡ true → has s (head w st) ≡ true

  one_step : (k : ℕ) → k < size w → (y : Direction) → Safe k y ⊎ Out w f s
  unfolding Safe
  one_step k l y =
      let st : Step = record { pipe = k; direction = y } in
      elim (cases_lt 0 (weight w f st)) [
        | inr z ↦ inl (λ p. absurd (omega (arith, p, z)))
        | inl p ↦ elim (cases_Bool (has s (tail w st))) [
          | inr o ↦ inl (λ _ i. absurd (both_ways _ o i))
          | inl i ↦ elim (cases_Bool (has s (head w st))) [
            | inl q ↦ inl (λ _ _. q)
            | inr q ↦ inr (record {
              from = tail w st;
              to = head w st;
              edge = record { step = st; residual = record { inside = l; heavy = p }; starts = refl; ends = refl };
              inside = i;
              outside = q;
            })
          ]
        ]
      ]

  scan : (n : ℕ) → n ≤ size w → ((k : ℕ) → k < n → (y : Direction) → Safe k y) ⊎ Out w f s
  scan zero l = inl (λ k b. absurd (omega arith))
  scan (suc n) l = elim (scan n (omega arith)) [
    | inr o ↦ inr o
    | inl h ↦ elim (one_step n (omega arith) Along) [
      | inr o ↦ inr o
      | inl x ↦ elim (one_step n (omega arith) Against) [
        | inr o ↦ inr o
        | inl z ↦ inl (λ k b. elim (cases_eq k n) [ inl e ↦ rw e (both x z) | inr d ↦ h k (omega arith) ])
      ]
    ]
  ]
    where
      both : Safe n Along → Safe n Against → (y : Direction) → Safe n y
      both x z Along = x
      both x z Against = z

  sealed_or_out : Sealed w f s ⊎ Out w f s
  unfolding Safe
  sealed_or_out = elim (scan (size w) (omega arith)) [
    | inr o ↦ inr o
    | inl h ↦ inl (λ a b st e. rw (← st.ends) (h st.step.pipe st.residual.inside st.step.direction st.residual.heavy (rw st.starts e)))
  ]

-- a path from a to k that stays in the set
abbrev PathIn : Network → List ℕ → ℕ → ℕ → ℕ → Type 0
PathIn w f a s k = (ss : List Step) × Path w f a ss k × AllByRecursion (λ t. has s (head w t) ≡ true) ss

-- a set with a, to all junctions of which paths lead inside it
record Found (w : Network) (f : List ℕ) (a s : ℕ) : Type 0 where
  inside : s < 2 ^ w.junctions
  start : has s a ≡ true
  paths : (k : ℕ) → has s k ≡ true → PathIn w f a s k

module _ (w : Network) (wired : Wired w) (f : List ℕ) (a : ℕ) (a_in : a < w.junctions) where
  alone : Found w f a (2 ^ a)
  alone = record {
    inside = pow_below a w.junctions a_in;
    start = has_power a;
    paths = λ k e. elim (cases_eq a k) [
      | inl q ↦ ([], sym q, tt)
      | inr d ↦ absurd (both_ways _ (has_other a k d) e)
    ];
  }

  -- one junction more
  wider : (s : ℕ) → Found w f a s → (o : Out w f s) → Found w f a (bit_or s (2 ^ o.to))
  wider s h o = record {
    inside = or_lt w.junctions s (2 ^ o.to) h.inside (pow_below o.to w.junctions (edge_head w wired f o.from o.to o.edge));
    start = keeps a h.start;
    paths = λ k e. elim (or_cases (has s k) (has (2 ^ o.to) k) (sym (has_or s (2 ^ o.to) k) ∙ e)) [
      | inl q ↦ let p = h.paths k q in (p.0, p.1, All-weaker _ _ (λ t. keeps (head w t)) p.0 p.2)
      | inr q ↦ elim (cases_eq o.to k) [
        | inl same ↦ rw (← same) longer
        | inr d ↦ absurd (both_ways _ (has_other o.to k d) q)
      ]
    ];
  }
    where
      keeps : (k : ℕ) → has s k ≡ true → has (bit_or s (2 ^ o.to)) k ≡ true
      keeps k e = has_or s (2 ^ o.to) k ∙ or_left _ _ e

      not_to : (k : ℕ) → has s k ≡ true → k ≢ o.to
      not_to k e q = both_ways _ o.outside (rw q at e)

      longer : PathIn w f a (bit_or s (2 ^ o.to)) o.to
      longer =
          let p = h.paths o.from o.inside in
          let st = o.edge in (
            st.step ∷ p.0,
            (st.residual, st.ends, (λ q. not_to a h.start (sym q), All-weaker _ _ (λ t e. not_to (head w t) e) p.0 p.2), rw st.starts p.1),
            (rw st.ends (has_or s (2 ^ o.to) o.to ∙ or_right _ _ (has_power o.to)), All-weaker _ _ (λ t. keeps (head w t)) p.0 p.2),
          )

  grown : (fuel s : ℕ) → Found w f a s → 2 ^ w.junctions ≤ s + fuel → (t : ℕ) × Found w f a t × Sealed w f t
  grown zero s h l = absurd (omega (arith, h.inside))
  grown (suc n) s h l = elim (sealed_or_out w f s) [
    | inl cl ↦ (s, h, cl)
    | inr o ↦ grown n (bit_or s (2 ^ o.to)) (wider s h o) (omega (arith, or_more s o.to o.outside))
  ]

  closure : (t : ℕ) × Found w f a t × Sealed w f t
  closure = grown (2 ^ w.junctions) (2 ^ a) alone (omega arith)

  -- the set of the junctions that a reaches exists, and a path leads to each of them
  pub reached_set : ℕ
  reached_set = closure.0

  pub is_reached : Reached w f a reached_set
  unfolding reached_set
  is_reached = reached_from w f a closure.0 closure.1.inside closure.1.start closure.2
      (λ k e. let p = closure.1.paths k e in path_reaches w f a p.0 k p.1)

  pub reaches_path : (b : ℕ) → Reaches w f a b → (ss : List Step) × Path w f a ss b
  reaches_path b r = let p = closure.1.paths b (sealed_reach w f closure.0 closure.2 r closure.1.start) in (p.0, p.1)

-- the set of the junctions that do not reach b exists
not_not : (a : Bool) → not (not a) ≡ a
not_not true = refl
not_not false = refl

module _ (w : Network) (wired : Wired w) (f : List ℕ) (b : ℕ) (b-in : b < w.junctions) where
  -- junction k does not reach b, by the set that it reaches
  misses : (k : ℕ) → (k < w.junctions) ⊎ (w.junctions ≤ k) → Bool
  misses k (inl l) = not (has (reached_set w wired f k l) b)
  misses k (inr m) = false

  misses_is : (k : ℕ) → k < w.junctions → (c : (k < w.junctions) ⊎ (w.junctions ≤ k)) → Decides (not (misses k c)) (Reaches w f k b)
  unfolding misses
  misses_is k l (inl c) = rw (not_not (has (reached_set w wired f k c) b)) ((is_reached w wired f k c).bits b b-in)
  misses_is k l (inr m) = absurd (omega arith)

  apart_word : (s : ℕ) × (s < 2 ^ w.junctions) × ((k : ℕ) → k < w.junctions → has s k ≡ misses k (cases_lt k w.junctions))
  apart_word = word_of w.junctions (λ k. misses k (cases_lt k w.junctions))

  pub apart_set : ℕ
  apart_set = apart_word.0

  pub is_apart : Apart w f b apart_set
  unfolding apart_set
  is_apart = record {
    inside = apart_word.1;
    bits = λ k l. rw (apart_word.2 k l) (misses_is k l (cases_lt k w.junctions));
  }
