-- Lines that are passed.
use Rattle.std.proofs.Common.{◌≡◌, ℕ, zero, suc, ◌+◌, ◌-◌, ◌<◌, ◌≤◌, Bool, true, false, cond, ◌&&◌, List, length, sym, refl, ap, ◌∙◌, arith, length-drop}
use Rattle.std.specs.List.{prefix_len}
use Rattle.std.proofs.lemmas.Bool.Decides.{nat_tests}
use Rattle.formats.specs.Lines.{in_line, ended, after_line}
use Rattle.compare_engines.specs.declared.order.Order.{Order}
use Rattle.compare_engines.specs.declared.order.Order.TheVariants.{Sheet, Open, Close, Limit, Pattern, Report, Governing, WriteSheet, ReadFlow, Places, Schedule, Step}
use Rattle.compare_engines.specs.Orders.{pipe_follows_in}
use Rattle.compare_engines.specs.Scripts.{behind_pipes, behind}

pub shorter : (bs : List ℕ) → ended bs ≡ true → length (after_line bs) < length bs
shorter bs e =
    let q : prefix_len in_line bs < length bs = grind (arith, nat_tests) in
    omega (arith, length-drop (prefix_len in_line bs + 1) bs, q)

pub pass_one : (n i : ℕ) (bs : List ℕ) → 0 < n → pipe_follows_in bs ≡ true → ended bs ≡ true → behind_pipes (n - 1) (i + 1) (after_line bs) ≡ behind_pipes n i bs
pass_one zero i bs l p e = absurd (omega (arith, l))
pass_one (suc n) i bs l p e =
    ap (λ (m : ℕ). behind_pipes m (i + 1) (after_line bs)) (let s : suc n - 1 ≡ n = omega arith in s)
    ∙ sym (ap (λ b. cond (b && ended bs) (behind_pipes n (i + 1) (after_line bs)) (i, bs)) p ∙ ap (λ b. cond b (behind_pipes n (i + 1) (after_line bs)) (i, bs)) e)

pub pass_none : (n i : ℕ) (bs : List ℕ) → pipe_follows_in bs ≡ false → behind_pipes n i bs ≡ (i, bs)
pass_none zero i bs p = refl
pass_none (suc n) i bs p = ap (λ b. cond (b && ended bs) (behind_pipes n (i + 1) (after_line bs)) (i, bs)) p

unended : (b c : Bool) {A : Type 0} (x y : A) → c ≡ false → cond (b && c) x y ≡ y
unended true c x y p = ap (λ b. cond b x y) p
unended false c x y p = refl

pub pass_unended : (n i : ℕ) (bs : List ℕ) → ended bs ≡ false → behind_pipes n i bs ≡ (i, bs)
pass_unended zero i bs p = refl
pass_unended (suc n) i bs p = unended (pipe_follows_in bs) (ended bs) (behind_pipes n (i + 1) (after_line bs)) (i, bs) p

one_of : (b c : Bool) (m : ℕ) (x y : ℕ × List ℕ) → (c ≡ true → length x.1 ≤ m) → length y.1 ≤ m → length (cond (b && c) x y).1 ≤ m
one_of true true m x y p q = p refl
one_of true false m x y p q = q
one_of false c m x y p q = q

within_pipes : (n i : ℕ) (bs : List ℕ) → length (behind_pipes n i bs).1 ≤ length bs
within_pipes zero i bs = omega arith
within_pipes (suc n) i bs =
    one_of (pipe_follows_in bs) (ended bs) (length bs) (behind_pipes n (i + 1) (after_line bs)) (i, bs)
    (λ e. omega (arith, within_pipes n (i + 1) (after_line bs), shorter bs e)) (omega arith)

-- behind an order no more is left than behind its line
pub within : (o : Order) (i : ℕ) (bs : List ℕ) → length (behind o i bs).1 ≤ length bs
within (Sheet n) i bs = within_pipes n i bs
within (Open k) i bs = omega arith
within (Close k) i bs = omega arith
within (Limit k l) i bs = omega arith
within Pattern i bs = omega arith
within Report i bs = omega arith
within (Governing k) i bs = omega arith
within WriteSheet i bs = omega arith
within ReadFlow i bs = omega arith
within (Places n) i bs = omega arith
within Schedule i bs = omega arith
within Step i bs = omega arith
