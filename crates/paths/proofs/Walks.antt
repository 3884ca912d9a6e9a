-- Paths are short, and their lengths in range.
use Rattle.std.proofs.Common.{◌≡◌, ℕ, zero, suc, ◌<◌, ◌≤◌, true, false, eqb, List, [], ◌∷◌, map, length, sym, refl, ◌∙◌, subst, inl, inr, arith}
use lib.ListN.{length-map}
use Rattle.std.specs.List.{AllByRecursion, IsDistinct, list_any}
use Rattle.std.proofs.lemmas.Bool.{false≢true, ne_eqb}
use Rattle.std.proofs.lemmas.Bool.Decides.{eqb_tells}
use Rattle.std.proofs.lemmas.Map.Keys.{IsDistinct-cons}
use Rattle.std.proofs.lemmas.Map.Steps.{length-le_from_distinct_below}
use Rattle.network.specs.declared.step.Step.{Step}
use Rattle.network.specs.Network.{Network}
use Rattle.network.specs.Residual.{tail, head, weight, size}
use Rattle.network.specs.Paths.{Path}
use Rattle.paths.specs.Metrics.{Got, begun, longer, InRange, Laws}
use Rattle.paths.specs.BestPaths.{length_of}

member_below : (n q : ℕ) (xs : List ℕ) → AllByRecursion (λ y. y < n) xs → list_any (eqb q) xs ≡ true → q < n
member_below n q [] h e = absurd (false≢true e)
member_below n q (x ∷ xs) h e = elim (eqb_tells q x) [
  | inl t ↦ omega (arith, t.1, h.0)
  | inr t ↦ member_below n q xs h.1 (rw t.0 at e)
]

-- different numbers below n are at most n of them
room : (n : ℕ) (xs : List ℕ) → IsDistinct eqb xs → AllByRecursion (λ y. y < n) xs → length xs ≤ n
room n xs d h = length-le_from_distinct_below xs n d (λ q e. member_below n q xs h e)

-- what the search needs of a network and a flow
pub record Sound (w : Network) (f : List ℕ) : Type 0 where
  pub few : w.junctions ≤ 64
  pub joins : (s : Step) → s.pipe < size w → (tail w s < w.junctions) × (head w s < w.junctions) × (tail w s ≡ head w s → ⊥)
  pub light : (s : Step) → s.pipe < size w → weight w f s ≤ 60000

module _ {w : Network} {f : List ℕ} (sound : Sound w f) (a : ℕ) (a_in : a < w.junctions) where
  -- none of these steps ends at b
  fresh_heads : (b : ℕ) (ss : List Step) → AllByRecursion (λ s. head w s ≡ b → ⊥) ss → AllByRecursion (λ y. eqb b y ≡ false) (map (head w) ss)
  fresh_heads b [] h = tt
  fresh_heads b (s ∷ ss) h = (ne_eqb b (head w s) (λ e. h.0 (sym e)), fresh_heads b ss h.1)

  -- the ends of a path's steps are junctions, apart, and none of them a
  path_heads : (ss : List Step) (b : ℕ) → Path w f a ss b → IsDistinct eqb (a ∷ map (head w) ss) × AllByRecursion (λ y. y < w.junctions) (map (head w) ss)
  unfolding IsDistinct
  path_heads [] b h = ((tt, tt), tt)
  path_heads (s ∷ ss) b h =
      let r = path_heads ss (tail w s) h.3 in (
        ((ne_eqb a (head w s) (λ e. h.2.0 (sym h.1 ∙ sym e)), r.0.0), (fresh_heads (head w s) ss (subst (λ (z : ℕ). AllByRecursion (λ q. head w q ≡ z → ⊥) ss) (sym h.1) h.2.1), r.0.1)),
        ((sound.joins s h.0.inside).1, r.1),
      )

  pub short : (ss : List Step) (b : ℕ) → Path w f a ss b → suc (length ss) ≤ w.junctions
  short ss b h =
      let r = path_heads ss b h in
      omega (arith, room w.junctions (a ∷ map (head w) ss) r.0 (a_in, r.1), length-map ss (head w))

  pub short63 : (ss : List Step) (b : ℕ) → Path w f a ss b → length ss ≤ 63
  short63 ss b h = let k = short ss b h in let l = sound.few in omega arith

  -- a path that misses a junction has a step fewer
  pub missing : (ss : List Step) (b x : ℕ) → Path w f a ss b → x < w.junctions → (x ≡ a → ⊥) → AllByRecursion (λ s. head w s ≡ x → ⊥) ss → suc (suc (length ss)) ≤ w.junctions
  missing ss b x h x-in k all =
      let r = path_heads ss b h in
      let d = IsDistinct-cons eqb x (a ∷ map (head w) ss) (ne_eqb x a k, fresh_heads x ss all) r.0 in
      omega (arith, room w.junctions (x ∷ (a ∷ map (head w) ss)) d (x-in, (a_in, r.1)), length-map ss (head w))

module _ {Λ : Type 0} {good : Λ → Λ → Type 0} {start none : Λ} {extended : Λ → ℕ → Λ} (laws : Laws good start none extended)
    {w : Network} {f : List ℕ} (sound : Sound w f) (a : ℕ) (a_in : a < w.junctions) where
  got_length : (ss : List Step) (b : ℕ) → Path w f a ss b → (m : ℕ) → length ss ≤ m → Got start extended m (length_of w f start extended ss)
  got_length [] b h m k = begun refl
  got_length (s ∷ ss) b h zero k = absurd (omega arith)
  got_length (s ∷ ss) b h (suc m) k = longer (length_of w f start extended ss) (weight w f s) (got_length ss (tail w s) h.3 m (omega arith)) (sound.light s h.0.inside) refl

  pub range_length : (ss : List Step) (b : ℕ) → Path w f a ss b → (m : ℕ) → length ss ≤ m → InRange start none extended m (length_of w f start extended ss)
  range_length ss b h m k = inr (got_length ss b h m k)

  pub range_path : (ss : List Step) (b : ℕ) → Path w f a ss b → InRange start none extended 63 (length_of w f start extended ss)
  range_path ss b h = range_length ss b h 63 (short63 sound a a_in ss b h)

  -- a path's length is not none
  pub some_length : (ss : List Step) (b : ℕ) → Path w f a ss b → length_of w f start extended ss ≡ none → ⊥
  some_length [] b h e = laws.apart e
  some_length (s ∷ ss) b h e =
      elim (laws.none_from (length_of w f start extended ss) (weight w f s) (range_path ss (tail w s) h.3) (sound.light s h.0.inside) e)
      [ inl n ↦ some_length ss (tail w s) h.3 n | inr z ↦ (let k = h.0.heavy in omega arith) ]
