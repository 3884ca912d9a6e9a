-- Labels in a list, and what the tests of a search tell.
use Rattle.std.proofs.Common.{◌≡◌, ℕ, suc, ◌-◌, ◌<◌, ◌≤◌, Bool, List, map, length, get_or, set, None, Decides, sym, refl, ap, ◌∙◌, subst, inl, inr, arith}
use lib.ListN.{length-map}
use Rattle.std.proofs.lemmas.Bool.{cases_eq, cases_lt}
use Rattle.std.proofs.lemmas.List.{get_or-map, map-set, get_or-set_same, get_or-set_other, get_or_past}
use Rattle.paths.specs.declared.label.Label.{Label}
use Rattle.paths.specs.Metrics.{Got, begun, longer, InRange, Laws}
use Rattle.paths.specs.BestPaths.{via_at}
use Rattle.paths.specs.Searches.{length_at, steps_at, Blank}

-- what is read of a label, at each junction
module _ {L X : Type 0} (g : Label L → X) (d : X) (ls : List (Label L)) where
  pub at_read : (i : ℕ) (l : Label L) → i < length ls → l ≡ get_or ls i l → get_or (map g ls) i d ≡ g l
  at_read i l h e = get_or-map g ls i l d h ∙ ap g (sym e)

  pub at_getD : (i : ℕ) (l : Label L) → i < length ls → get_or (map g ls) i d ≡ g (get_or ls i l)
  at_getD i l h = get_or-map g ls i l d h

  pub at_set_same : (i : ℕ) (l : Label L) → i < length ls → get_or (map g (set ls i l)) i d ≡ g l
  at_set_same i l h =
      let k : i < length (map g ls) = simp length-map h in
      ap (λ xs. get_or xs i d) (map-set g ls i l) ∙ get_or-set_same (map g ls) i (g l) d k

  pub at_set_other : (i : ℕ) (l : Label L) (x : ℕ) → (x ≡ i → ⊥) → get_or (map g (set ls i l)) x d ≡ get_or (map g ls) x d
  at_set_other i l x k = ap (λ xs. get_or xs x d) (map-set g ls i l) ∙ get_or-set_other (map g ls) i x (g l) d k

  -- the same everywhere
  pub at_all : (l : Label L) → ((k : ℕ) → k < length ls → get_or ls k l ≡ l) → g l ≡ d → (x : ℕ) → get_or (map g ls) x d ≡ d
  at_all l all e x = elim (cases_lt x (length ls)) [
    | inl h ↦ get_or-map g ls x l d h ∙ ap g (all x h) ∙ e
    | inr h ↦ get_or_past (map g ls) x d (simp length-map h)
  ]

module _ {L Λ : Type 0} (means : L → Λ) (start none : Λ) (ls : List (Label L)) (b f : Label L) (a : ℕ) (a_in : a < length ls)
    (all : (k : ℕ) → k < length ls → get_or ls k b ≡ b) (b-none : means b.length ≡ none) (b-steps : b.steps ≡ 0) (b-unset : b.via ≡ None) (f-start : means f.length ≡ start) (f-steps : f.steps ≡ 0) (f-unset : f.via ≡ None) where
  pub blank_set : Blank means start none a (set ls a f)
  blank_set = record {
    source = at_set_same (λ l. means l.length) none ls a f a_in ∙ f-start;
    others = λ x k. at_set_other (λ l. means l.length) none ls a f x k ∙ at_all (λ l. means l.length) none ls b all b-none x;
    uncounted = λ x. elim (cases_eq x a) [
      | inl e ↦ ap (steps_at (set ls a f)) e ∙ at_set_same (λ l. l.steps) 0 ls a f a_in ∙ f-steps
      | inr k ↦ at_set_other (λ l. l.steps) 0 ls a f x k ∙ at_all (λ l. l.steps) 0 ls b all b-steps x
    ];
    unset = λ x. elim (cases_eq x a) [
      | inl e ↦ ap (via_at (set ls a f)) e ∙ at_set_same (λ l. l.via) None ls a f a_in ∙ f-unset
      | inr k ↦ at_set_other (λ l. l.via) None ls a f x k ∙ at_all (λ l. l.via) None ls b all b-unset x
    ];
  }

got_more : {Λ : Type 0} {start : Λ} {extended : Λ → ℕ → Λ} (n : ℕ) (l : Λ) → Got start extended n l → Got start extended (suc n) l
got_more n l (begun e) = begun e
got_more (suc n) l (longer k w h b e) = longer k w (got_more n k h) b e

module _ {Λ : Type 0} {good : Λ → Λ → Type 0} {start none : Λ} {extended : Λ → ℕ → Λ} (laws : Laws good start none extended) where
  range_more : (l : Λ) → InRange start none extended 62 l → InRange start none extended 63 l
  range_more l (inl e) = inl e
  range_more l (inr h) = inr (got_more 62 l h)

  -- an extension may still be compared
  range_extended : (l : Λ) (w : ℕ) → w ≤ 60000 → InRange start none extended 62 l → InRange start none extended 63 (extended l w)
  range_extended l w k (inl e) = inl (laws.none_at l w (inl e) k (inl e))
  range_extended l w k (inr h) = inr (longer l w h k refl)

  -- what a test of an extension tells: the length A, stored as a, and extended to y, is compared with B, stored as b
  tested : (A B a b y : Λ) (w : ℕ) (r : Bool) → A ≡ a → B ≡ b
      → InRange start none extended 62 A → InRange start none extended 63 B → w ≤ 60000
      → (InRange start none extended 63 a → w ≤ 60000 → y ≡ extended a w)
      → (InRange start none extended 63 b → InRange start none extended 63 y → Decides r (good b y))
      → (y ≡ extended A w) × Decides r (good B (extended A w))
  tested A B a b y w r ea eb ga gb l f d =
      let ga' : InRange start none extended 62 a = subst (λ (z : Λ). InRange start none extended 62 z) ea ga in
      let ey : y ≡ extended a w = f (range_more a ga') l in
      let gb' : InRange start none extended 63 b = subst (λ (z : Λ). InRange start none extended 63 z) eb gb in
      let gy : InRange start none extended 63 y = subst (λ (z : Λ). InRange start none extended 63 z) (sym ey) (range_extended a w l ga') in
      let e : y ≡ extended A w = ey ∙ ap (λ z. extended z w) (sym ea) in
      (e, subst (λ (z : Λ). Decides r (good z (extended A w))) (sym eb) (subst (λ (z : Λ). Decides r (good b z)) e (d gb' gy)))

  -- what a test for none tells
  pub tested_none : (A a z : Λ) (r : Bool) → A ≡ a → z ≡ none
      → InRange start none extended 63 A
      → (InRange start none extended 63 z → InRange start none extended 63 a → Decides r (good z a))
      → Decides r (A ≡ none)
  tested_none A a z r ea ez ga d =
      let ga' : InRange start none extended 63 a = subst (λ (y : Λ). InRange start none extended 63 y) ea ga in
      let t : Decides r (good z a) = d (inl ez) ga' in
      let u : Decides r (good none A) = subst (λ (y : Λ). Decides r (good y A)) ez (subst (λ (y : Λ). Decides r (good z y)) (sym ea) t) in
      ((λ e. laws.same A none (laws.none_worst A) (u.0 e)), (λ e. u.1 (subst (λ (y : Λ). good none y) (sym e) (laws.itself none))))

-- the same of labels: that at u, which is l and has a step to go, is extended to y, and compared with that at v
pub tried : {L Λ : Type 0} (means : L → Λ) {good : Λ → Λ → Type 0} {start none : Λ} {extended : Λ → ℕ → Λ} (laws : Laws good start none extended) (ls : List (Label L)) (u v c : ℕ) {l : Label L} (m : Label L) (y : L) (r : Bool)
    → u < length ls → v < length ls → l ≡ get_or ls u l → l.steps < length ls - 1
    → (suc (steps_at ls u) < length ls → InRange start none extended 62 (length_at means none ls u)) → InRange start none extended 63 (length_at means none ls v) → c ≤ 60000
    → (InRange start none extended 63 (means l.length) → c ≤ 60000 → means y ≡ extended (means l.length) c)
    → (InRange start none extended 63 (means (get_or ls v m).length) → InRange start none extended 63 (means y) → Decides r (good (means (get_or ls v m).length) (means y)))
    → (means y ≡ extended (length_at means none ls u) c) × Decides r (good (length_at means none ls v) (extended (length_at means none ls u) c))
tried means {none} laws ls u v c {l} m y r hu hv e short known =
    tested laws (length_at means none ls u) (length_at means none ls v) (means l.length) (means (get_or ls v m).length) (means y) c r
    (at_read (λ l. means l.length) none ls u l hu e) (at_getD (λ l. means l.length) none ls v m hv)
    (known (omega (arith, at_read (λ l. l.steps) 0 ls u l hu e)))
