-- One pipe, one round and the rounds, over the labels as they are stored.
use Rattle.std.proofs.Common.{◌≡◌, ℕ, suc, ◌+◌, ◌<◌, ◌≤◌, Bool, true, false, ◌||◌, ◌⊎◌, List, [], ◌∷◌, length, get_or, Decides, sym, refl, ap, ◌∙◌, subst, ap₂, inl, inr, arith}
use Rattle.std.proofs.lemmas.Bool.{cases_eq, or_parts}
use Rattle.network.specs.declared.step.Direction.{Direction}
use Rattle.network.specs.declared.step.Direction.TheVariants.{Along, Against}
use Rattle.network.specs.declared.step.Step.{Step}
use Rattle.network.specs.Network.{Network}
use Rattle.network.specs.Residual.{tail, head, weight, size, Residual}
use Rattle.network.specs.Paths.{Path}
use Rattle.network.specs.Pipes.{network_of, flow_of}
use Rattle.paths.specs.declared.label.Label.{Label}
use Rattle.paths.specs.declared.search.Search.{Search}
use Rattle.paths.specs.Metrics.{InRange, Laws}
use Rattle.paths.specs.BestPaths.{length_of, BestAt}
use Rattle.paths.specs.Searches.{length_at, Kept, Labelled, Relaxed, Follows, Done, Blank, Best, Within}
use Rattle.paths.proofs.Walks.{Sound, short}
use Rattle.paths.proofs.Tables.{sound, size_is}
use Rattle.paths.proofs.Labels.{at_read, tested_none}
use Rattle.paths.proofs.Relaxing.{range}
use Rattle.paths.proofs.Ends.{settled, round_more, exact, no_way, chain_leads}

step_is : (p : Step) (k : ℕ) (d : Direction) → k ≡ p.pipe → d ≡ p.direction → record { pipe = k; direction = d } ≡ p
step_is p k d e h = ap₂ (λ (x : ℕ) (y : Direction). let r : Step = record { pipe = x; direction = y } in r) e h

by_direction : (d : Direction) → (Along ≡ d) ⊎ (Against ≡ d)
by_direction Along = inl refl
by_direction Against = inr refl

module _ {L Λ : Type 0} (means : L → Λ) {good : Λ → Λ → Type 0} {start none : Λ} {extended : Λ → ℕ → Λ} (laws : Laws good start none extended) (s : Search) where
  abbrev w : Network
  w = network_of s.table.now

  abbrev f : List ℕ
  f = flow_of s.table.now

  abbrev a : ℕ
  a = s.source

  net : Sound w f
  net = sound s.table.now

  by_count : (ls ls' : List (Label L)) → Done w f means good none extended ls ls' (λ j. j < s.table.now.count) → (p : Step) → Residual w f p → Relaxed w f means good none extended ls ls' p
  by_count ls ls' d p r = d p (omega (arith, r.inside, size_is s.table.now)) r

  pub follows_trans : {ls₀ ls₁ ls₂ : List (Label L)} {r₁ r₂ : Bool} → Follows w f a means good start none extended ls₀ ls₁ r₁ → Follows w f a means good start none extended ls₁ ls₂ r₂ → Follows w f a means good start none extended ls₀ ls₂ (r₁ || r₂)
  follows_trans {r₁} {r₂} g h = record {
    kept = h.kept;
    better = λ x. laws.trans _ _ _ (h.better x) (g.better x);
    still = λ e. (let q = or_parts r₁ r₂ e in h.still q.1 ∙ g.still q.0);
  }

  module _ {ls₀ ls₁ ls₂ : List (Label L)} {r₁ r₂ : Bool}
      (labelled : Labelled w f a means good start none extended ls₀)
      (g : Follows w f a means good start none extended ls₀ ls₁ r₁) (h : Follows w f a means good start none extended ls₁ ls₂ r₂) where
    -- what the second part does, it does from the first labels too
    earlier_one : (p : Step) → p.pipe < size w → Relaxed w f means good none extended ls₁ ls₂ p → Relaxed w f means good none extended ls₀ ls₂ p
    earlier_one p i d =
        laws.trans _ _ _ d
        (laws.keeps (length_at means none ls₁ (tail w p)) (length_at means none ls₀ (tail w p)) (weight w f p)
        (range laws net a s.within g.kept (tail w p)) (range laws net a s.within labelled.kept (tail w p)) (net.light p i) (g.better (tail w p)))

    -- both steps of the pipe k
    pub done_both : (k : ℕ)
        → Relaxed w f means good none extended ls₀ ls₁ (record { pipe = k; direction = Along })
        → Relaxed w f means good none extended ls₁ ls₂ (record { pipe = k; direction = Against })
        → Done w f means good none extended ls₀ ls₂ (λ j. j ≡ k)
    done_both k x y p e r = elim (by_direction p.direction) [
      | inl t ↦ laws.trans _ _ _ (h.better (head w p)) (subst (λ (z : Step). Relaxed w f means good none extended ls₀ ls₁ z) (step_is p k Along (sym e) t) x)
      | inr t ↦ earlier_one p r.inside (subst (λ (z : Step). Relaxed w f means good none extended ls₁ ls₂ z) (step_is p k Against (sym e) t) y)
    ]

    -- the pipes below k by the first part, and the pipe k by the second
    pub done_more : (k : ℕ) → Done w f means good none extended ls₀ ls₁ (λ j. j < k) → Done w f means good none extended ls₁ ls₂ (λ j. j ≡ k) → Done w f means good none extended ls₀ ls₂ (λ j. j < k + 1)
    done_more k d e p i r = elim (cases_eq p.pipe k) [
      | inl q ↦ earlier_one p r.inside (e p q r)
      | inr q ↦ laws.trans _ _ _ (h.better (head w p)) (d p (omega arith) r)
    ]

  module _ {ls ls' : List (Label L)} {r : Bool} (kept : Kept w f a means good start none extended ls) (g : Follows w f a means good start none extended ls ls' r)
      (d : Done w f means good none extended ls ls' (λ j. j < s.table.now.count)) where
    -- a round more
    pub within_more : (m : ℕ) → Within w f a means good start none extended m ls → Within w f a means good start none extended (suc m) ls'
    within_more m o = round_more laws net a s.within kept (length_at means none ls') m g.kept.source (by_count ls ls' d) o

    pub best_still : r ≡ false → Best w f a means good start none extended ls'
    best_still e = rw (g.still e) (settled laws net a s.within kept (by_count ls ls (rw (g.still e) at d)))

  pub best_all : (ls : List (Label L)) (m : ℕ) → w.junctions ≤ suc m → Within w f a means good start none extended m ls → Best w f a means good start none extended ls
  best_all ls m k o qs b h = o qs b h (omega (arith, short net a s.within qs b h))

  pub kept_blank : {ls : List (Label L)} → Blank means start none a ls → Kept w f a means good start none extended ls
  kept_blank {ls} b = record {
    source = b.source;
    root = b.unset a;
    reached = λ v. elim (cases_eq v a) [
      | inl e ↦ inr (record { steps = []; leads = e; is = ap (length_at means none ls) e ∙ b.source; counted = b.uncounted v; over = subst (λ (z : Λ). good z start) (sym b.source) (laws.itself start) }, record { steps = []; chain = (e, b.unset v) })
      | inr k ↦ inl (b.others v k)
    ];
    came = λ v p e. absurd (cc (e, b.unset v));
  }

  pub within_blank : {ls : List (Label L)} → Blank means start none a ls → Within w f a means good start none extended 0 ls
  within_blank {ls} b [] v h k = subst (λ (z : Λ). good z start) (sym (ap (length_at means none ls) h ∙ b.source)) (laws.itself start)
  within_blank b (q ∷ qs) v h k = absurd (omega arith)

  -- the answers, by the label l at b, and by what a test for none says of it
  module _ (ls : List (Label L)) (kept : Kept w f a means good start none extended ls) (best : Best w f a means good start none extended ls)
      (b : ℕ) (b-in : b < length ls) {l : Label L} (e : l ≡ get_or ls b l)
      (z : L) (none_is : means z ≡ none) (r : Bool) (test : InRange start none extended 63 (means z) → InRange start none extended 63 (means l.length) → Decides r (good (means z) (means l.length))) where
    tells : Decides r (length_at means none ls b ≡ none)
    tells = tested_none laws _ _ _ r (at_read (λ l. means l.length) none ls b l b-in e) none_is (range laws net a s.within kept b) test

    pub answer_none : r ≡ true → (qs : List Step) → Path w f a qs b → ⊥
    answer_none t qs h = no_way laws net a s.within kept best b (tells.0 t) qs h

    pub answer_some : r ≡ false → BestAt w f a b means good start extended ls l
    answer_some t = elim (kept.reached b) [
      | inl n ↦ absurd (cc (t, tells.1 n))
      | inr p ↦ (let ps = p.1.steps in
          let ch = p.1.chain in
          let is = exact laws net a s.within kept best ps b ch in
          record {
            steps = ps;
            stands = sym e;
            spelled = ch;
            leads = chain_leads laws net a s.within kept ps b ch;
            is = sym (at_read (λ l. means l.length) none ls b l b-in e) ∙ is;
            best = λ qs h. subst (λ (z : Λ). good z (length_of w f start extended qs)) is (best qs b h);
          })
    ]
