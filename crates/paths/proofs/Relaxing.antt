-- A relaxed step keeps what the search keeps.
use Rattle.std.proofs.Common.{◌≡◌, ℕ, suc, ◌<◌, ◌≤◌, ◌⊎◌, List, [], ◌∷◌, Some, Option, sym, refl, ap, ◌∙◌, subst, inl, inr, arith}
use Rattle.std.specs.List.{AllByRecursion}
use Rattle.std.proofs.lemmas.Bool.{cases_eq}
use Rattle.network.specs.declared.step.Step.{Step}
use Rattle.network.specs.Network.{Network}
use Rattle.network.specs.Residual.{tail, head, weight, size, Residual}
use Rattle.network.specs.Paths.{Path}
use Rattle.paths.specs.Metrics.{InRange, Laws}
use Rattle.paths.specs.BestPaths.{length_of, Chain}
use Rattle.paths.specs.Searches.{Over, Witness, Rooted, Inv}
use Rattle.paths.proofs.Walks.{Sound, missing, range_length, range_path}

module _ {Λ : Type 0} {good : Λ → Λ → Type 0} {start none : Λ} {extended : Λ → ℕ → Λ} (laws : Laws good start none extended)
    {w : Network} {f : List ℕ} (sound : Sound w f) (a : ℕ) (a_in : a < w.junctions)
    {at : ℕ → Λ} {count : ℕ → ℕ} {via : ℕ → Option Step} (inv : Inv w f a good start none extended at count via) where
  -- each label is in range
  pub range : (x : ℕ) → InRange start none extended 63 (at x)
  range x = elim (inv.reached x) [ inl e ↦ inl e | inr r ↦ subst (λ (l : Λ). InRange start none extended 63 l) (sym r.0.is) (range_path laws sound a a_in r.0.steps x r.0.leads) ]

  -- with a step more to go it is in range even after an extension
  pub range_short : (x : ℕ) → suc (count x) < w.junctions → InRange start none extended 62 (at x)
  range_short x k = elim (inv.reached x) [
    | inl e ↦ inl e
    | inr r ↦ (let c = r.0.counted in let m = sound.few in
        subst (λ (l : Λ). InRange start none extended 62 l) (sym r.0.is) (range_length laws sound a a_in r.0.steps x r.0.leads 62 (omega arith)))
  ]

  -- a junction on a path has a label at least as good as the path
  on_path : (y : ℕ) (ps : List Step) (x : ℕ) → Path w f a ps x → Over w f a good start extended at ps → good (at y) (length_of w f start extended ps) ⊎ AllByRecursion (λ q. head w q ≡ y → ⊥) ps
  on_path y [] x h o = inr tt
  on_path y (q ∷ qs) x h o = elim (cases_eq (head w q) y) [
    | inl e ↦ inl (subst (λ (z : ℕ). good (at z) (length_of w f start extended (q ∷ qs))) e o.0)
    | inr k ↦ elim (on_path y qs (tail w q) h.3 o.1) [
      | inl g ↦ inl (laws.trans _ _ _ g (laws.not_better (length_of w f start extended qs) (weight w f q) (range_path laws sound a a_in qs (tail w q) h.3) (sound.light q h.0.inside)))
      | inr all ↦ inr (k, all)
    ]
  ]

  module _ (p : Step) (inside : p.pipe < size w) where
    slower : good (at (tail w p)) (extended (at (tail w p)) (weight w f p))
    slower = laws.not_better (at (tail w p)) (weight w f p) (range (tail w p)) (sound.light p inside)

    -- an absent step improves nothing
    pub absent : weight w f p ≡ 0 → good (at (head w p)) (extended (at (tail w p)) (weight w f p))
    absent e = subst (λ (l : Λ). good (at (head w p)) l) (sym (laws.none_at (at (tail w p)) (weight w f p) (range (tail w p)) (sound.light p inside) (inr e))) (laws.none_worst (at (head w p)))

    -- nor does a step into the source
    pub into_source : head w p ≡ a → good (at (head w p)) (extended (at (tail w p)) (weight w f p))
    into_source e = subst (λ (l : Λ). good l (extended (at (tail w p)) (weight w f p))) (sym (ap at e ∙ inv.source)) (laws.start_best _)

    -- nor a step from a path that has every junction
    pub full : w.junctions ≤ suc (count (tail w p)) → good (at (head w p)) (extended (at (tail w p)) (weight w f p))
    full k = elim (inv.reached (tail w p)) [
      | inl e ↦ subst (λ (l : Λ). good (at (head w p)) l) (sym (laws.none_at (at (tail w p)) (weight w f p) (range (tail w p)) (sound.light p inside) (inl e))) (laws.none_worst (at (head w p)))
      | inr r ↦ elim (on_path (head w p) r.0.steps (tail w p) r.0.leads r.0.over) [
        | inl g ↦ laws.trans _ _ _ (subst (λ (l : Λ). good (at (head w p)) l) (sym r.0.is) g) slower
        | inr all ↦ elim (cases_eq (head w p) a) [
          | inl e ↦ into_source e
          | inr n ↦ absurd (let c = r.0.counted in let m = missing sound a a_in r.0.steps (tail w p) (head w p) r.0.leads (sound.joins p inside).1 n all in omega arith)
        ]
      ]
    ]

  module _ (p : Step) (pres : Residual w f p) (strict : good (at (head w p)) (extended (at (tail w p)) (weight w f p)) → ⊥) where
    not_none : at (tail w p) ≡ none → ⊥
    not_none e =
        let z = laws.none_at (at (tail w p)) (weight w f p) (range (tail w p)) (sound.light p pres.inside) (inl e) in
        strict (subst (λ (l : Λ). good (at (head w p)) l) (sym z) (laws.none_worst (at (head w p))))

    not_source : head w p ≡ a → ⊥
    not_source e = strict (into_source p pres.inside e)

    tail_reached : Witness w f a good start extended at count (tail w p) × Rooted w a via (tail w p)
    tail_reached = elim (inv.reached (tail w p)) [ inl e ↦ absurd (not_none e) | inr r ↦ r ]

    strict' : good (at (head w p)) (at (tail w p)) → ⊥
    strict' g = strict (laws.trans _ _ _ g (slower p pres.inside))

    not_on_chain : (ps : List Step) (x : ℕ) → Chain w a via ps x → (good (at (head w p)) (at x) → ⊥) → AllByRecursion (λ q. head w q ≡ head w p → ⊥) ps
    not_on_chain [] x h k = tt
    not_on_chain (q ∷ qs) x h k =
        let c = inv.came x q h.0 in (
          (λ e. k (subst (λ (z : ℕ). good (at z) (at x)) (sym c.0 ∙ e) (laws.itself (at x)))),
          not_on_chain qs (tail w q) h.1
              (λ g. k (laws.trans _ _ _ g (laws.trans _ _ _ (laws.not_better (at (tail w q)) (weight w f q) (range (tail w q)) (sound.light q c.1.inside)) c.2))),
        )

    module _ {at' : ℕ → Λ} {count' : ℕ → ℕ} {via' : ℕ → Option Step}
        (at_new : at' (head w p) ≡ extended (at (tail w p)) (weight w f p)) (at_old : (x : ℕ) → (x ≡ head w p → ⊥) → at' x ≡ at x)
        (count-new : count' (head w p) ≡ suc (count (tail w p))) (count-old : (x : ℕ) → (x ≡ head w p → ⊥) → count' x ≡ count x)
        (via-new : via' (head w p) ≡ Some p) (via-old : (x : ℕ) → (x ≡ head w p → ⊥) → via' x ≡ via x) where
      new_better : good (at' (head w p)) (at (head w p))
      new_better = subst (λ (l : Λ). good l (at (head w p))) (sym at_new) (elim (laws.total (extended (at (tail w p)) (weight w f p)) (at (head w p))) [ inl g ↦ g | inr g ↦ absurd (strict g) ])

      pub better : (x : ℕ) → good (at' x) (at x)
      better x = elim (cases_eq x (head w p)) [
        | inl e ↦ subst (λ (z : ℕ). good (at' z) (at z)) (sym e) new_better
        | inr k ↦ subst (λ (l : Λ). good l (at x)) (sym (at_old x k)) (laws.itself (at x))
      ]

      over_up : (ps : List Step) → Over w f a good start extended at ps → Over w f a good start extended at' ps
      over_up [] o = laws.trans _ _ _ (better a) o
      over_up (q ∷ qs) o = (laws.trans _ _ _ (better (head w q)) o.0, over_up qs o.1)

      witness_new : Witness w f a good start extended at' count' (head w p)
      witness_new =
          let o = tail_reached.0 in
          let apart : AllByRecursion (λ q. head w q ≡ head w p → ⊥) o.steps = elim (on_path (head w p) o.steps (tail w p) o.leads o.over) [ inl g ↦ absurd (strict' (subst (λ (l : Λ). good (at (head w p)) l) (sym o.is) g)) | inr all ↦ all ] in
          record {
            steps = p ∷ o.steps;
            leads = (pres, refl, (not_source, apart), o.leads);
            is = at_new ∙ ap (λ l. extended l (weight w f p)) o.is;
            counted = count-new ∙ ap suc o.counted;
            over = (subst (λ (l : Λ). good (at' (head w p)) l) (at_new ∙ ap (λ l. extended l (weight w f p)) o.is) (laws.itself _), over_up o.steps o.over);
          }

      witness_old : (x : ℕ) → (x ≡ head w p → ⊥) → Witness w f a good start extended at count x → Witness w f a good start extended at' count' x
      witness_old x k o = record { steps = o.steps; leads = o.leads; is = at_old x k ∙ o.is; counted = count-old x k ∙ o.counted; over = over_up o.steps o.over }

      chain_same : (ps : List Step) (x : ℕ) → Chain w a via ps x → AllByRecursion (λ q. head w q ≡ head w p → ⊥) ps → Chain w a via' ps x
      chain_same [] x h all = (h.0, via-old x (λ e. not_source (sym e ∙ h.0)) ∙ h.1)
      chain_same (q ∷ qs) x h all = (via-old x (λ e. all.0 ((inv.came x q h.0).0 ∙ e)) ∙ h.0, chain_same qs (tail w q) h.1 all.1)

      rooted_new : Rooted w a via' (head w p)
      rooted_new =
          let r = tail_reached.1 in
          record { steps = p ∷ r.steps; chain = (via-new, chain_same r.steps (tail w p) r.chain (not_on_chain r.steps (tail w p) r.chain strict')) }

      rooted_old : (ps : List Step) (x : ℕ) → Chain w a via ps x → Rooted w a via' x
      rooted_old [] x h = record { steps = []; chain = (h.0, via-old x (λ e. not_source (sym e ∙ h.0)) ∙ h.1) }
      rooted_old (q ∷ qs) x h =
          let r = rooted_old qs (tail w q) h.1 in
          elim (cases_eq x (head w p)) [
            | inl e ↦ subst (λ (z : ℕ). Rooted w a via' z) (sym e) rooted_new
            | inr k ↦ record { steps = q ∷ r.steps; chain = (via-old x k ∙ h.0, r.chain) }
          ]

      reached' : (x : ℕ) → (at' x ≡ none) ⊎ (Witness w f a good start extended at' count' x × Rooted w a via' x)
      reached' x = elim (cases_eq x (head w p)) [
        | inl e ↦ inr (subst (λ (z : ℕ). Witness w f a good start extended at' count' z × Rooted w a via' z) (sym e) (witness_new, rooted_new))
        | inr k ↦ elim (inv.reached x) [ inl z ↦ inl (at_old x k ∙ z) | inr r ↦ inr (witness_old x k r.0, rooted_old r.1.steps x r.1.chain) ]
      ]

      range' : (x : ℕ) → InRange start none extended 63 (at' x)
      range' x = elim (reached' x) [ inl e ↦ inl e | inr r ↦ subst (λ (l : Λ). InRange start none extended 63 l) (sym r.0.is) (range_path laws sound a a_in r.0.steps x r.0.leads) ]

      came_new : (q : Step) → p ≡ q → (head w q ≡ head w p) × Residual w f q × good (extended (at' (tail w q)) (weight w f q)) (at' (head w p))
      came_new q e =
          let old : at' (tail w p) ≡ at (tail w p) = at_old (tail w p) (sound.joins p pres.inside).2 in
          subst (λ (z : Step). (head w z ≡ head w p) × Residual w f z × good (extended (at' (tail w z)) (weight w f z)) (at' (head w p))) e
          (refl, pres, subst (λ (l : Λ). good (extended l (weight w f p)) (at' (head w p))) (sym old) (subst (λ (l : Λ). good l (at' (head w p))) at_new (laws.itself _)))

      came' : (x : ℕ) (q : Step) → via' x ≡ Some q → (head w q ≡ x) × Residual w f q × good (extended (at' (tail w q)) (weight w f q)) (at' x)
      came' x q h = elim (cases_eq x (head w p)) [
        | inl e ↦ subst (λ (z : ℕ). (head w q ≡ z) × Residual w f q × good (extended (at' (tail w q)) (weight w f q)) (at' z)) (sym e) (came_new q (cc (via-new, ap via' e, h)))
        | inr k ↦ (let c = inv.came x q (sym (via-old x k) ∙ h) in (
          c.0,
          c.1,
          subst (λ (l : Λ). good (extended (at' (tail w q)) (weight w f q)) l) (sym (at_old x k))
              (laws.trans _ _ _ (laws.keeps (at' (tail w q)) (at (tail w q)) (weight w f q) (range' (tail w q)) (range (tail w q)) (sound.light q c.1.inside) (better (tail w q))) c.2),
        ))
      ]

      pub relaxed : Inv w f a good start none extended at' count' via'
      relaxed = record {
        source = at_old a (λ e. not_source (sym e)) ∙ inv.source;
        root = via-old a (λ e. not_source (sym e)) ∙ inv.root;
        reached = reached';
        came = came';
      }
