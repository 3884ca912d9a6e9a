-- Pushing an amount along a path.
use Rattle.std.proofs.Common.{◌≡◌, ℕ, ◌+◌, ◌-◌, ◌<◌, ◌≤◌, true, eqb, ◌≢◌, List, [], ◌∷◌, length, set, sym, refl, ap, ◌∙◌, inl, inr, arith, length-set, get_or-set_other, get_or-set_same}
use Rattle.std.specs.List.{AllByRecursion}
use Rattle.std.proofs.lemmas.Bool.{cases_eq}
use Rattle.network.specs.declared.step.Direction.{Direction}
use Rattle.network.specs.declared.step.Direction.TheVariants.{Along, Against}
use Rattle.network.specs.declared.step.Step.{Step}
use Rattle.network.specs.declared.valve.Valve.{Valve}
use Rattle.network.specs.declared.valve.Valve.TheVariants.{Open, Closed}
use Rattle.network.specs.Cuts.{has}
use Rattle.network.specs.Flows.{outflow, inflow, Within}
use Rattle.network.specs.Network.{Pipe, Network}
use Rattle.network.specs.Paths.{Fresh, Path}
use Rattle.network.specs.Pushing.{moved, push, pushed, Shifts}
use Rattle.network.specs.Reaches.{Sealed}
use Rattle.network.specs.Residual.{pipe, size, carried, tail, head, start_by, end_by, weight, weight_by, Residual}
use Rattle.network.specs.Sums.{total, only}
use Rattle.network.specs.Valves.{room}
use Rattle.network.proofs.Totals.{total_but, only_add}
use Rattle.network.proofs.Words.{same_test}

module _ (f : List ℕ) (i x m : ℕ) (here : i < length f) (there : i < m) where
  -- what a change at one pipe does to a sum over the pipes that end at j
  pub set_total : (e : ℕ → ℕ) (j : ℕ) → total m (λ k. only (eqb (e k) j) (carried (set f i x) k)) + only (eqb (e i) j) (carried f i) ≡ total m (λ k. only (eqb (e k) j) (carried f k)) + only (eqb (e i) j) x
  set_total e j =
      let same : carried (set f i x) i ≡ x = get_or-set_same f i x 0 here in
      total_but m (λ k. only (eqb (e k) j) (carried (set f i x) k)) (λ k. only (eqb (e k) j) (carried f k)) i there
      (λ k l d. ap (only (eqb (e k) j)) (get_or-set_other f i k x 0 d))
      ∙ ap (λ y. total m (λ k. only (eqb (e k) j) (carried f k)) + only (eqb (e i) j) y) same

all_both : {X : Type 0} (P Q R : X → Type 0) → ((x : X) → P x → Q x → R x) → (xs : List X) → AllByRecursion P xs → AllByRecursion Q xs → AllByRecursion R xs
all_both P Q R f [] p q = tt
all_both P Q R f (x ∷ xs) p q = (f x p.0 q.0, all_both P Q R f xs p.1 q.1)

-- a residual step takes c litres more
pub record Takes (w : Network) (f : List ℕ) (c : ℕ) (s : Step) : Type 0 where
  pub residual : Residual w f s
  pub weighs : c ≤ weight w f s

-- the steps lead from a to b
abbrev Leads : Network → ℕ → List Step → ℕ → Type 0
Leads w a [] b = b ≡ a
Leads w a (s ∷ ss) b = (head w s ≡ b) × Leads w a ss (tail w s)

-- no pipe is used twice
abbrev pub Once : List Step → Type 0
Once [] = Unit {0}
Once (s ∷ ss) = AllByRecursion (λ t. t.pipe ≢ s.pipe) ss × Once ss

along_le : (v : Valve) (l x c : ℕ) → x ≤ room v l → c ≤ room v (l - x) → x + c ≤ room v l
along_le Open l x c h k = omega arith
along_le Closed l x c h k = omega arith

against_le : (v : Valve) (x c : ℕ) → c ≤ room v x → c ≤ x
against_le Open x c h = h
against_le Closed x c h = omega arith

module _ (w : Network) (c : ℕ) where
  push_within : (f : List ℕ) (s : Step) → Within w f → Takes w f c s → Within w (push f c s)
  push_within f s h t = record {
    each = length-set f s.pipe _ ∙ h.each;
    limits = λ k l. elim (cases_eq k s.pipe) [
      | inl e ↦ rw (e, get_or-set_same f s.pipe (moved s.direction (carried f s.pipe) c) 0 (omega (arith, t.residual.inside, h.each)))
          (at s.direction t.weighs)
      | inr d ↦ rw (get_or-set_other f s.pipe k (moved s.direction (carried f s.pipe) c) 0 d) (h.limits k l)
    ];
  }
    where
      at : (y : Direction) → c ≤ weight_by y (pipe w s.pipe) (carried f s.pipe) →
          moved y (carried f s.pipe) c ≤ room (pipe w s.pipe).valve (pipe w s.pipe).limit
      at Along l = along_le (pipe w s.pipe).valve (pipe w s.pipe).limit (carried f s.pipe) c (h.limits s.pipe t.residual.inside) l
      at Against l = omega (arith, h.limits s.pipe t.residual.inside)

  push_shifts : (f : List ℕ) (s : Step) → Within w f → Takes w f c s → Shifts w f (push f c s) (tail w s) (head w s) c
  push_shifts f s h t j = at s.direction t.weighs
    where
      out : (x : ℕ) → outflow w (set f s.pipe x) j + only (eqb (pipe w s.pipe).from j) (carried f s.pipe) ≡ outflow w f j + only (eqb (pipe w s.pipe).from j) x
      out x = set_total f s.pipe x (size w) (omega (arith, t.residual.inside, h.each)) t.residual.inside (λ k. (pipe w k).from) j

      inn : (x : ℕ) → inflow w (set f s.pipe x) j + only (eqb (pipe w s.pipe).to j) (carried f s.pipe) ≡ inflow w f j + only (eqb (pipe w s.pipe).to j) x
      inn x = set_total f s.pipe x (size w) (omega (arith, t.residual.inside, h.each)) t.residual.inside (λ k. (pipe w k).to) j

      at : (y : Direction) → c ≤ weight_by y (pipe w s.pipe) (carried f s.pipe) →
          let g : List ℕ = set f s.pipe (moved y (carried f s.pipe) c) in
          outflow w g j + inflow w f j + only (eqb (end_by y (pipe w s.pipe)) j) c
          ≡ outflow w f j + inflow w g j + only (eqb (start_by y (pipe w s.pipe)) j) c
      at Along l =
          let x = carried f s.pipe in
          omega (arith, out (x + c), inn (x + c), only_add (eqb (pipe w s.pipe).from j) x c, only_add (eqb (pipe w s.pipe).to j) x c)
      at Against l =
          let x = carried f s.pipe in
          let back : x - c + c ≡ x = omega (arith, against_le (pipe w s.pipe).valve x c l) in
          omega (
            arith,
            out (x - c),
            inn (x - c),
            ap (only (eqb (pipe w s.pipe).from j)) back,
            ap (only (eqb (pipe w s.pipe).to j)) back,
            only_add (eqb (pipe w s.pipe).from j) (x - c) c,
            only_add (eqb (pipe w s.pipe).to j) (x - c) c,
          )

  -- a step by another pipe takes what it took
  push_other : (f : List ℕ) (s t : Step) → t.pipe ≢ s.pipe → Takes w f c t → Takes w (push f c s) c t
  push_other f s t d h = record {
    residual = record { inside = h.residual.inside; heavy = rw same h.residual.heavy };
    weighs = rw same h.weighs;
  }
    where
      same : carried (push f c s) t.pipe ≡ carried f t.pipe
      same = get_or-set_other f s.pipe t.pipe (moved s.direction (carried f s.pipe) c) 0 d

  push_others : (f : List ℕ) (s : Step) (ss : List Step) → AllByRecursion (λ t. t.pipe ≢ s.pipe) ss → AllByRecursion (Takes w f c) ss → AllByRecursion (Takes w (push f c s) c) ss
  push_others f s ss o t = all_both _ _ _ (push_other f s) ss o t

  all_within : (ss : List Step) (f : List ℕ) → Within w f → Once ss → AllByRecursion (Takes w f c) ss → Within w (pushed f c ss)
  all_within [] f h o t = h
  all_within (s ∷ ss) f h o t = all_within ss (push f c s) (push_within f s h t.0) o.1 (push_others f s ss o.0 t.1)

  all_shifts : (ss : List Step) (f : List ℕ) (a b : ℕ) → Within w f → Leads w a ss b → Once ss → AllByRecursion (Takes w f c) ss → Shifts w f (pushed f c ss) a b c
  all_shifts [] f a b h l o t j = rw l (omega arith)
  all_shifts (s ∷ ss) f a b h l o t j =
      let last = push_shifts f s h t.0 j in
      let rest = all_shifts ss (push f c s) a (tail w s) (push_within f s h t.0) l.1 o.1 (push_others f s ss o.0 t.1) j in
      let to : only (eqb (head w s) j) c ≡ only (eqb b j) c = ap (λ x. only (eqb x j) c) l.0 in
      omega (arith, last, rest, to)

-- a step that stays on one side of a sealed set leaves it sealed
module _ (w : Network) (f : List ℕ) (u c : ℕ) (s : Step) (side : has u (tail w s) ≡ has u (head w s)) where
  either : (x y : Direction) (p : Pipe) → has u (start_by y p) ≡ has u (end_by y p) → has u (start_by x p) ≡ has u (end_by x p)
  either Along Along p e = e
  either Along Against p e = sym e
  either Against Along p e = sym e
  either Against Against p e = e

  push_sealed : Sealed w f u → Sealed w (push f c s) u
  push_sealed cl a b st e = elim (cases_eq st.step.pipe s.pipe) [
    | inl q ↦
        let across : has u (tail w st.step) ≡ has u (head w st.step) = rw q (either st.step.direction s.direction (pipe w s.pipe) side) in
        ap (has u) (sym st.ends) ∙ sym across ∙ ap (has u) st.starts ∙ e
    | inr d ↦ cl a b (record {
      step = st.step;
      residual = record {
        inside = st.residual.inside;
        heavy = rw (get_or-set_other f s.pipe st.step.pipe (moved s.direction (carried f s.pipe) c) 0 d) at st.residual.heavy;
      };
      starts = st.starts;
      ends = st.ends;
    }) e
  ]

-- and so do steps that lead from one side back to it
module _ (w : Network) (u c : ℕ) where
  all_side : (ss : List Step) (f : List ℕ) (a b : ℕ) → Sealed w f u → Leads w a ss b → AllByRecursion (Takes w f c) ss → has u a ≡ true → has u b ≡ true
  all_side [] f a b cl l t e = rw l e
  all_side (s ∷ ss) f a b cl l t e =
      cl (tail w s) b (record { step = s; residual = t.0.residual; starts = refl; ends = l.0 }) (all_side ss f a (tail w s) cl l.1 t.1 e)

  all_sealed : (ss : List Step) (f : List ℕ) (a b : ℕ) → Sealed w f u → Leads w a ss b → Once ss → AllByRecursion (Takes w f c) ss → has u a ≡ has u b → Sealed w (pushed f c ss) u
  all_sealed [] f a b cl l o t e = cl
  all_sealed (s ∷ ss) f a b cl l o t e =
      let last : has u (tail w s) ≡ true → has u b ≡ true = cl (tail w s) b (record { step = s; residual = t.0.residual; starts = refl; ends = l.0 }) in
      let rest : has u a ≡ true → has u (tail w s) ≡ true = all_side ss f a (tail w s) cl l.1 t.1 in
      let level : has u (tail w s) ≡ has u b = same_test _ _ last (λ q. rest (e ∙ q)) in
      all_sealed ss (push f c s) a (tail w s) (push_sealed w f u c s (level ∙ ap (has u) (sym l.0)) cl) l.1 o.1
      (push_others w c f s ss o.0 t.1) (e ∙ sym level)

module _ (w : Network) (f : List ℕ) (a : ℕ) where
  path_leads : (ss : List Step) (b : ℕ) → Path w f a ss b → Leads w a ss b
  path_leads [] b p = p
  path_leads (s ∷ ss) b p = (p.1, path_leads ss (tail w s) p.3)

  path_takes : (c : ℕ) (ss : List Step) (b : ℕ) → Path w f a ss b → AllByRecursion (λ s. c ≤ weight w f s) ss → AllByRecursion (Takes w f c) ss
  path_takes c [] b p h = tt
  path_takes c (s ∷ ss) b p h = (record { residual = p.0; weighs = h.0 }, path_takes c ss (tail w s) p.3 h.1)

  -- the end of a path that does not visit b is not b
  not_at : (ss : List Step) (x b : ℕ) → Path w f a ss x → Fresh w a b ss → x ≢ b
  not_at [] x b p n e = n.0 (sym e ∙ p)
  not_at (s ∷ ss) x b p n e = n.1.0 (p.1 ∙ e)

  -- a pipe that leads to b is not used before
  ends_apart : (x y : Direction) (p : Pipe) (b : ℕ) → end_by y p ≡ b → (end_by x p ≡ b → ⊥) → start_by x p ≢ b → ⊥
  ends_apart Along Along p b e h t = h e
  ends_apart Along Against p b e h t = t e
  ends_apart Against Along p b e h t = t e
  ends_apart Against Against p b e h t = h e

  others : (s : Step) (b : ℕ) → head w s ≡ b → (ss : List Step) (x : ℕ) → Path w f a ss x → Fresh w a b ss → AllByRecursion (λ t. t.pipe ≢ s.pipe) ss
  others s b e [] x p n = tt
  others s b e (t ∷ ts) x p n = (
    λ q. ends_apart t.direction s.direction (pipe w s.pipe) b e
        (rw q at n.1.0) (rw q at (not_at ts (tail w t) b p.3 (n.0, n.1.1))),
    others s b e ts (tail w t) p.3 (n.0, n.1.1),
  )

  pub path_once : (ss : List Step) (b : ℕ) → Path w f a ss b → Once ss
  path_once [] b p = tt
  path_once (s ∷ ss) b p = (others s b p.1 ss (tail w s) p.3 p.2, path_once ss (tail w s) p.3)

module _ (w : Network) (f : List ℕ) (a b c : ℕ) (ss : List Step) (path : Path w f a ss b) (takes : AllByRecursion (λ s. c ≤ weight w f s) ss) where
  -- what is pushed along a path by at most each weight keeps within the limits, and moves c from a to b
  pub path_within : Within w f → Within w (pushed f c ss)
  path_within h = all_within w c ss f h (path_once w f a ss b path) (path_takes w f a c ss b path takes)

  pub path_shifts : Within w f → Shifts w f (pushed f c ss) a b c
  path_shifts h = all_shifts w c ss f a b h (path_leads w f a ss b path) (path_once w f a ss b path) (path_takes w f a c ss b path takes)

  -- a sealed set stays sealed when the path begins and ends on one side of it
  pub path_sealed : (u : ℕ) → Sealed w f u → has u a ≡ has u b → Sealed w (pushed f c ss) u
  path_sealed u cl e = all_sealed w u c ss f a b cl (path_leads w f a ss b path) (path_once w f a ss b path) (path_takes w f a c ss b path takes) e
