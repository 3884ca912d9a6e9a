-- Rounds, and what the labels say at the end.
use Rattle.std.proofs.Common.{◌≡◌, ℕ, suc, ◌<◌, ◌≤◌, List, [], ◌∷◌, length, Option, sym, refl, ap, ◌∙◌, subst, arith}
use Rattle.std.specs.List.{AllByRecursion}
use Rattle.network.specs.declared.step.Step.{Step}
use Rattle.network.specs.Network.{Network}
use Rattle.network.specs.Residual.{tail, head, weight, Residual}
use Rattle.network.specs.Paths.{Path}
use Rattle.paths.specs.Metrics.{Laws}
use Rattle.paths.specs.BestPaths.{length_of, Chain}
use Rattle.paths.specs.Searches.{Inv}
use Rattle.paths.proofs.Walks.{Sound, range_path, some_length}
use Rattle.paths.proofs.Relaxing.{range}

module _ {Λ : Type 0} {good : Λ → Λ → Type 0} {start none : Λ} {extended : Λ → ℕ → Λ} (laws : Laws good start none extended)
    {w : Network} {f : List ℕ} (sound : Sound w f) (a : ℕ) (a_in : a < w.junctions)
    {at : ℕ → Λ} {count : ℕ → ℕ} {via : ℕ → Option Step} (inv : Inv w f a good start none extended at count via) where
  -- with no step that improves, each label is at least as good as each path
  pub settled : ((p : Step) → Residual w f p → good (at (head w p)) (extended (at (tail w p)) (weight w f p))) → (qs : List Step) (v : ℕ) → Path w f a qs v → good (at v) (length_of w f start extended qs)
  settled tight [] v h = subst (λ (l : Λ). good l start) (sym (ap at h ∙ inv.source)) (laws.itself start)
  settled tight (q ∷ qs) v h =
      let r = settled tight qs (tail w q) h.3 in
      subst (λ (z : ℕ). good (at z) (extended (length_of w f start extended qs) (weight w f q))) h.1
      (laws.trans _ _ _ (tight q h.0) (laws.keeps (at (tail w q)) (length_of w f start extended qs) (weight w f q) (range laws sound a a_in inv (tail w q)) (range_path laws sound a a_in qs (tail w q) h.3) (sound.light q h.0.inside) r))

  -- a round more
  pub round_more : (at' : ℕ → Λ) (m : ℕ) → at' a ≡ start
      → ((p : Step) → Residual w f p → good (at' (head w p)) (extended (at (tail w p)) (weight w f p)))
      → ((qs : List Step) (v : ℕ) → Path w f a qs v → length qs ≤ m → good (at v) (length_of w f start extended qs))
      → (qs : List Step) (v : ℕ) → Path w f a qs v → length qs ≤ suc m → good (at' v) (length_of w f start extended qs)
  round_more at' m e tight o [] v h k = subst (λ (l : Λ). good l start) (sym (ap at' h ∙ e)) (laws.itself start)
  round_more at' m e tight o (q ∷ qs) v h k =
      subst (λ (z : ℕ). good (at' z) (extended (length_of w f start extended qs) (weight w f q))) h.1
      (laws.trans _ _ _ (tight q h.0) (laws.keeps (at (tail w q)) (length_of w f start extended qs) (weight w f q) (range laws sound a a_in inv (tail w q)) (range_path laws sound a a_in qs (tail w q) h.3) (sound.light q h.0.inside) (o qs (tail w q) h.3 (omega arith))))

  chain_size : (ps qs : List Step) (x : ℕ) → Chain w a via ps x → Chain w a via qs x → length ps ≡ length qs
  chain_size [] [] x l r = refl
  chain_size [] (q ∷ qs) x l r = absurd (cc (r.0, l.1))
  chain_size (p ∷ ps) [] x l r = absurd (cc (l.0, r.1))
  chain_size (p ∷ ps) (q ∷ qs) x l r =
      let e : p ≡ q = cc (l.0, r.0) in
      ap suc (chain_size ps qs (tail w p) l.1 (subst (λ (z : Step). Chain w a via qs (tail w z)) (sym e) r.1))

  not_again : (x k : ℕ) → ((zs : List Step) → Chain w a via zs x → length zs ≡ k) → (qs : List Step) (y : ℕ) → Chain w a via qs y → length qs < k → AllByRecursion (λ q. head w q ≡ x → ⊥) qs
  not_again x k u [] y h l = tt
  not_again x k u (q ∷ qs) y h l = (
    (λ e. let d : length (q ∷ qs) ≡ k = u (q ∷ qs) (subst (λ (z : ℕ). Chain w a via (q ∷ qs) z) (sym (inv.came y q h.0).0 ∙ e) h) in omega arith),
    not_again x k u qs (tail w q) h.1 (omega arith),
  )

  pub chain_leads : (ps : List Step) (x : ℕ) → Chain w a via ps x → Path w f a ps x
  chain_leads [] x h = h.0
  chain_leads (q ∷ qs) x h =
      let c = inv.came x q h.0 in (
        c.1,
        c.0,
        (
          (λ e. cc (h.0, ap via e, inv.root)),
          not_again x (length (q ∷ qs)) (λ zs z. chain_size zs (q ∷ qs) x z h) qs (tail w q) h.1 (omega arith),
        ),
        chain_leads qs (tail w q) h.1,
      )

  chain_good : (ps : List Step) (x : ℕ) → Chain w a via ps x → good (length_of w f start extended ps) (at x)
  chain_good [] x h = laws.start_best (at x)
  chain_good (q ∷ qs) x h =
      let c = inv.came x q h.0 in
      laws.trans _ _ _ (laws.keeps (length_of w f start extended qs) (at (tail w q)) (weight w f q) (range_path laws sound a a_in qs (tail w q) (chain_leads qs (tail w q) h.1)) (range laws sound a a_in inv (tail w q)) (sound.light q c.1.inside) (chain_good qs (tail w q) h.1)) c.2

  module _ (best : (qs : List Step) (v : ℕ) → Path w f a qs v → good (at v) (length_of w f start extended qs)) where
    -- the chain's length is the label
    pub exact : (ps : List Step) (x : ℕ) → Chain w a via ps x → at x ≡ length_of w f start extended ps
    exact ps x h = laws.same (at x) (length_of w f start extended ps) (best ps x (chain_leads ps x h)) (chain_good ps x h)

    pub no_way : (x : ℕ) → at x ≡ none → (qs : List Step) → Path w f a qs x → ⊥
    no_way x e qs h =
        some_length laws sound a a_in qs x h (laws.same (length_of w f start extended qs) none (laws.none_worst _) (subst (λ (l : Λ). good l (length_of w f start extended qs)) e (best qs x h)))
