-- The widest path: a length is the smallest weight on the path, and the greater is the better.
use Rattle.std.specs.Prelude.{◌≡◌, ℕ, ◌≤◌, min, ◌⊎◌, refl}
use Rattle.std.proofs.Common.{ap, inl, inr, arith}
use Rattle.std.proofs.lemmas.Bool.{cases_eq, cases_lt}
use Rattle.paths.specs.Metrics.{Laws}
use Rattle.paths.specs.declared.widest.Widest.{Widest}
use Rattle.paths.specs.declared.widest.Widest.TheVariants.{Litres, Unbounded}

pub data Width : Type 0 where
  unbounded : Width
  width : ℕ → Width

-- the first is at least as wide
abbrev pub Wider : Width → Width → Type 0
Wider unbounded b = Unit {0}
Wider (width a) unbounded = ⊥
Wider (width a) (width b) = b ≤ a

abbrev pub narrowed : Width → ℕ → Width
narrowed unbounded w = width w
narrowed (width a) w = width (min a w)

abbrev pub width_means : Widest → Width
width_means (Litres n) = width n
width_means Unbounded = unbounded

wider_itself : (a : Width) → Wider a a
wider_itself unbounded = tt
wider_itself (width a) = omega arith

pub wider_trans : (a b c : Width) → Wider a b → Wider b c → Wider a c
wider_trans unbounded b c p q = tt
wider_trans (width a) unbounded c p q = absurd p
wider_trans (width a) (width b) unbounded p q = absurd q
wider_trans (width a) (width b) (width c) p q = omega arith

pub wider_total : (a b : Width) → Wider a b ⊎ Wider b a
wider_total unbounded b = inl tt
wider_total (width a) unbounded = inr tt
wider_total (width a) (width b) = elim (cases_lt a b) [ inl h ↦ inr (omega arith) | inr h ↦ inl h ]

pub wider_same : (a b : Width) → Wider a b → Wider b a → a ≡ b
wider_same unbounded unbounded p q = refl
wider_same unbounded (width b) p q = absurd q
wider_same (width a) unbounded p q = absurd p
wider_same (width a) (width b) p q = ap width (omega arith)

none_widest : (a : Width) → Wider a (width 0)
none_widest unbounded = tt
none_widest (width a) = omega arith

wider_not_better : (a : Width) (w : ℕ) → Wider a (narrowed a w)
wider_not_better unbounded w = tt
wider_not_better (width a) w = omega arith

pub wider_keeps : (a b : Width) (w : ℕ) → Wider a b → Wider (narrowed a w) (narrowed b w)
wider_keeps unbounded unbounded w p = omega arith
wider_keeps unbounded (width b) w p = omega arith
wider_keeps (width a) unbounded w p = absurd p
wider_keeps (width a) (width b) w p = omega arith

width_apart : unbounded ≡ width 0 → ⊥
width_apart e = cc

narrowed_none : (a : Width) (w : ℕ) → narrowed a w ≡ width 0 → (a ≡ width 0) ⊎ (w ≡ 0)
narrowed_none unbounded w e = inr (cc)
narrowed_none (width a) w e =
    let k : min a w ≡ 0 = cc in
    elim (cases_eq a 0) [ inl z ↦ inl (ap width z) | inr z ↦ inr (omega arith) ]

none_narrowed : (a : Width) (w : ℕ) → (a ≡ width 0) ⊎ (w ≡ 0) → narrowed a w ≡ width 0
none_narrowed unbounded w (inl e) = absurd (width_apart e)
none_narrowed unbounded w (inr e) = ap width e
none_narrowed (width a) w (inl e) = let k : a ≡ 0 = cc in ap width (omega arith)
none_narrowed (width a) w (inr e) = ap width (omega arith)

pub width_laws : Laws Wider unbounded (width 0) narrowed
width_laws = record {
  itself = wider_itself;
  trans = wider_trans;
  total = wider_total;
  same = wider_same;
  start_best = λ a. tt;
  none_worst = none_widest;
  apart = width_apart;
  not_better = λ a w g l. wider_not_better a w;
  keeps = λ a b w g h l. wider_keeps a b w;
  none_from = λ a w g l. narrowed_none a w;
  none_at = λ a w g l. none_narrowed a w;
}
