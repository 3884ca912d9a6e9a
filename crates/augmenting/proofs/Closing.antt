-- Pipes closed by letters, one after the other.
use Rattle.std.proofs.Common.{◌≡◌, ℕ, ◌+◌, ◌⊎◌, List, get_or, Some, None, Option, sym, refl, ap, ◌∙◌, inl, inr, add-one, arith, length-set}
use mathlib.Core.Path.{transport}
use Rattle.network.specs.Network.{Network}
use Rattle.network.specs.Residual.{size}
use Rattle.formats.specs.declared.setting.Setting.{Setting}
use Rattle.formats.specs.declared.setting.Setting.TheVariants.{Open, Closed, Unchanged}
use Rattle.formats.specs.Letters.{setting_of}
use Rattle.interface.specs.Works.{Closings, one_closed, one_left}
use Rattle.augmenting.specs.Legs.{ClosesBy}

-- a setting closes, or it does not
pub closed_or_not : (o : Option Setting) → (o ≡ Some Closed) ⊎ (o ≡ Some Closed → ⊥)
closed_or_not None = inr (λ e. let z : ◌≡◌ {A = ℕ} 0 1 = cc in omega arith)
closed_or_not (Some Open) = inr (λ e. let z : ◌≡◌ {A = ℕ} 0 1 = cc in omega arith)
closed_or_not (Some Closed) = inl refl
closed_or_not (Some Unchanged) = inr (λ e. let z : ◌≡◌ {A = ℕ} 0 1 = cc in omega arith)

module _ {Λ : Type 0} {good : Λ → Λ → Type 0} {start : Λ} {extended : Λ → ℕ → Λ} where
  -- junctions and pipes stay in number
  pub closes_same : (w : Network) (f : List ℕ) (k : ℕ) (o : Option Setting) (u : Network) (n : ℕ) (g : List ℕ) → ClosesBy good start extended w f k o u n g → (u.junctions ≡ w.junctions) × (size u ≡ size w)
  closes_same w f k o u n g c = elim (closed_or_not o) [
    | inl e ↦ let z = c.closes e in (ap (λ (v : Network). v.junctions) z.0, ap size z.0 ∙ length-set w.pipes k _)
    | inr e ↦ let z = c.leaves e in (ap (λ (v : Network). v.junctions) z.0, ap size z.0)
  ]

  -- one letter more
  pub closings_more : (w : Network) (f : List ℕ) (bs : List ℕ) (k : ℕ) (u : Network) (n : ℕ) (g : List ℕ) → Closings good start extended w f bs k u n g
      → (v : Network) (m : ℕ) (h : List ℕ) → ClosesBy good start extended u g k (setting_of (get_or bs k 0)) v m h → Closings good start extended w f bs (k + 1) v (n + m) h
  closings_more w f bs k u n g all v m h c = elim (closed_or_not (setting_of (get_or bs k 0))) [
    | inl e ↦ let z = c.closes e in transport (λ i. Closings good start extended w f bs (sym (add-one k) i) (sym z.0 i) (n + m) h) (one_closed all e z.1)
    | inr e ↦ let z = c.leaves e in
        let none : n ≡ n + m = omega (arith, z.1) in
        transport (λ i. Closings good start extended w f bs (sym (add-one k) i) (sym z.0 i) (none i) (sym z.2 i)) (one_left all e)
  ]
