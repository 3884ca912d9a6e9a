-- The path of fewest pipes: fewer is better, then the greater smallest weight.
use Rattle.std.specs.Prelude.{◌≡◌, ℕ, zero, suc, ◌<◌, ◌⊎◌, ◌≢◌, refl}
use Rattle.std.proofs.Common.{sym, ap, ap₂, ◌∙◌, inl, inr, arith}
use Rattle.std.proofs.lemmas.Bool.{cases_eq, cases_order}
use Rattle.paths.specs.Metrics.{Laws}
use Rattle.paths.specs.declared.fewest.Fewest.{Fewest}
use Rattle.paths.specs.declared.fewest.Fewest.TheVariants.{NoWay, Path}
use Rattle.paths.specs.Widths.{Width, unbounded, Wider, narrowed, width_means, wider_trans, wider_total, wider_same, wider_keeps, width_laws}

pub data Few : Type 0 where
  no_few : Few
  few : ℕ → Width → Few

-- the first is at least as good
abbrev pub Fewer : Few → Few → Type 0
Fewer no_few no_few = Unit {0}
Fewer no_few (few q b) = ⊥
Fewer (few p a) no_few = Unit {0}
Fewer (few p a) (few q b) = (p < q) ⊎ ((p ≡ q) × Wider a b)

abbrev pub lengthened : Few → ℕ → Few
lengthened no_few w = no_few
lengthened (few p a) zero = no_few
lengthened (few p a) (suc w) = few (suc p) (narrowed a (suc w))

abbrev pub few_means : Fewest → Few
few_means NoWay = no_few
few_means (Path p l) = few p.0 (width_means l)

fewer_itself : (a : Few) → Fewer a a
fewer_itself no_few = tt
fewer_itself (few p a) = inr (refl, width_laws.itself a)

fewer_trans : (a b c : Few) → Fewer a b → Fewer b c → Fewer a c
fewer_trans no_few no_few no_few x y = tt
fewer_trans no_few no_few (few r c) x y = absurd y
fewer_trans no_few (few q b) no_few x y = absurd x
fewer_trans no_few (few q b) (few r c) x y = absurd x
fewer_trans (few p a) no_few no_few x y = tt
fewer_trans (few p a) no_few (few r c) x y = absurd y
fewer_trans (few p a) (few q b) no_few x y = tt
fewer_trans (few p a) (few q b) (few r c) (inl x) (inl y) = inl (omega arith)
fewer_trans (few p a) (few q b) (few r c) (inl x) (inr y) = inl (let e = y.0 in omega arith)
fewer_trans (few p a) (few q b) (few r c) (inr x) (inl y) = inl (let e = x.0 in omega arith)
fewer_trans (few p a) (few q b) (few r c) (inr x) (inr y) = inr (x.0 ∙ y.0, wider_trans a b c x.1 y.1)

fewer_total : (a b : Few) → Fewer a b ⊎ Fewer b a
fewer_total no_few no_few = inl tt
fewer_total no_few (few q b) = inr tt
fewer_total (few p a) no_few = inl tt
fewer_total (few p a) (few q b) = elim (cases_order p q) [
  | inl e ↦ elim (wider_total a b) [ inl h ↦ inl (inr (e, h)) | inr h ↦ inr (inr (sym e, h)) ]
  | inr h ↦ elim h [ inl l ↦ inl (inl l) | inr l ↦ inr (inl l) ]
]

fewer_same : (a b : Few) → Fewer a b → Fewer b a → a ≡ b
fewer_same no_few no_few x y = refl
fewer_same no_few (few q b) x y = absurd x
fewer_same (few p a) no_few x y = absurd y
fewer_same (few p a) (few q b) (inl x) (inl y) = absurd (omega arith)
fewer_same (few p a) (few q b) (inl x) (inr y) = absurd (let e = y.0 in omega arith)
fewer_same (few p a) (few q b) (inr x) (inl y) = absurd (let e = x.0 in omega arith)
fewer_same (few p a) (few q b) (inr x) (inr y) = ap₂ few x.0 (wider_same a b x.1 y.1)

first_fewest : (a : Few) → Fewer (few 0 unbounded) a
first_fewest no_few = tt
first_fewest (few p a) = elim (cases_eq 0 p) [ inl e ↦ inr (e, tt) | inr h ↦ inl (omega arith) ]

last_fewest : (a : Few) → Fewer a no_few
last_fewest no_few = tt
last_fewest (few p a) = tt

few_apart : (p : ℕ) (a : Width) → few p a ≢ no_few
few_apart p a e = cc

fewer_not_better : (a : Few) (w : ℕ) → Fewer a (lengthened a w)
fewer_not_better no_few w = tt
fewer_not_better (few p a) zero = tt
fewer_not_better (few p a) (suc w) = inl (omega arith)

fewer_keeps : (a b : Few) (w : ℕ) → Fewer a b → Fewer (lengthened a w) (lengthened b w)
fewer_keeps no_few no_few w x = tt
fewer_keeps no_few (few q b) w x = absurd x
fewer_keeps (few p a) no_few zero x = tt
fewer_keeps (few p a) no_few (suc w) x = tt
fewer_keeps (few p a) (few q b) zero x = tt
fewer_keeps (few p a) (few q b) (suc w) (inl x) = inl (omega arith)
fewer_keeps (few p a) (few q b) (suc w) (inr x) = inr (ap suc x.0, wider_keeps a b (suc w) x.1)

lengthened_none : (a : Few) (w : ℕ) → lengthened a w ≡ no_few → (a ≡ no_few) ⊎ (w ≡ 0)
lengthened_none no_few w e = inl refl
lengthened_none (few p a) zero e = inr refl
lengthened_none (few p a) (suc w) e = absurd (few_apart (suc p) (narrowed a (suc w)) e)

none_lengthened : (a : Few) (w : ℕ) → (a ≡ no_few) ⊎ (w ≡ 0) → lengthened a w ≡ no_few
none_lengthened no_few w h = refl
none_lengthened (few p a) zero h = refl
none_lengthened (few p a) (suc w) (inl e) = absurd (few_apart p a e)
none_lengthened (few p a) (suc w) (inr e) = absurd (omega arith)

pub few_laws : Laws Fewer (few 0 unbounded) no_few lengthened
few_laws = record {
  itself = fewer_itself;
  trans = fewer_trans;
  total = fewer_total;
  same = fewer_same;
  start_best = first_fewest;
  none_worst = last_fewest;
  apart = few_apart 0 unbounded;
  not_better = λ a w g l. fewer_not_better a w;
  keeps = λ a b w g h l. fewer_keeps a b w;
  none_from = λ a w g l. lengthened_none a w;
  none_at = λ a w g l. none_lengthened a w;
}
