-- The report by what is read off a flow.
use Rattle.std.proofs.Common.{◌≡◌, ℕ, zero, suc, ◌+◌, ◌-◌, ◌*◌, ◌/◌, ◌%◌, ◌^◌, ◌<◌, ◌≤◌, Bool, true, false, not, eqb, List, pos, sym, refl, ap, ◌∙◌, suc-mul, arith}
use Rattle.std.proofs.lemmas.Nat.{pow_pos, pow-add, shr-shr, shr_high}
use Rattle.std.proofs.lemmas.Int.{ints}
use Rattle.std.proofs.lemmas.Bool.Decides.{nat_tests}
use Rattle.network.specs.declared.step.Direction.TheVariants.{Against}
use Rattle.network.specs.declared.step.Step.{Step}
use Rattle.network.specs.Cuts.{has}
use Rattle.network.specs.Flows.{outflow, inflow, Flow, value}
use Rattle.network.specs.Network.{Network, Wired}
use Rattle.network.specs.Paths.{Path}
use Rattle.network.specs.Reaches.{Reached, Apart}
use Rattle.network.specs.Reports.{report_of}
use Rattle.network.proofs.Greatest.{path_greatest, greatest_value, greatest_apart, near_cut, report_is}
use Rattle.augmenting.specs.Closures.{Closure}

one_less : (a b : ℕ) → 0 < a → 0 < b → (a - 1) * b + (b - 1) ≡ a * b - 1
one_less zero b p q = absurd (omega arith)
one_less (suc a) b p q = let e : suc a - 1 ≡ a = omega arith in rw (e, suc-mul a b) (omega arith)

-- n ones
pub ones_shifted : (n : ℕ) → n ≤ 64 → (2 ^ 64 - 1) / 2 ^ (64 - n) ≡ 2 ^ n - 1
ones_shifted n l =
    let k : n + (64 - n) ≡ 64 = omega arith in
    let split : (2 ^ n - 1) * 2 ^ (64 - n) + (2 ^ (64 - n) - 1) ≡ 2 ^ 64 - 1 =
    one_less (2 ^ n) (2 ^ (64 - n)) (pow_pos n) (pow_pos (64 - n)) ∙ ap (λ (x : ℕ). x - 1) (sym (pow-add 2 n (64 - n)) ∙ ap (λ (x : ℕ). 2 ^ x) k) in
    let less : 2 ^ (64 - n) - 1 < 2 ^ (64 - n) = omega (arith, pow_pos (64 - n)) in
    ap (λ (x : ℕ). x / 2 ^ (64 - n)) (sym split) ∙ shr_high (2 ^ n - 1) (64 - n) (2 ^ (64 - n) - 1) less

half : (a k : ℕ) → has a (suc k) ≡ has (a / 2) k
half a k =
    let e : 1 + k ≡ suc k = omega arith in
    ap (λ x. eqb (x % 2) 1) (sym (shr-shr a 1 k ∙ ap (λ x. a / 2 ^ x) e))

low_not : (a b : ℕ) → a % 2 + b % 2 ≡ 1 → eqb (a / 1 % 2) 1 ≡ not (eqb (b / 1 % 2) 1)
low_not a b h = grind (arith, nat_tests)

-- the junctions that are not in the set
pub has_rest : (n s k : ℕ) → s < 2 ^ n → k < n → has (2 ^ n - 1 - s) k ≡ not (has s k)
has_rest zero s k l b = absurd (omega arith)
has_rest (suc n) s zero l b = low_not (2 ^ suc n - 1 - s) s (omega arith)
has_rest (suc n) s (suc k) l b =
    let e : (2 ^ suc n - 1 - s) / 2 ≡ 2 ^ n - 1 - s / 2 = omega arith in
    half (2 ^ suc n - 1 - s) k ∙ ap (λ x. has x k) e ∙ has_rest n (s / 2) k (omega arith) (omega arith) ∙ ap not (sym (half s k))

not_not : (b : Bool) → not (not b) ≡ b
not_not true = refl
not_not false = refl

-- Against, the rest of the closure is what does not reach
pub closure_apart : (w : Network) (f : List ℕ) (b s : ℕ) → Closure Against w f b s → Apart w f b (2 ^ w.junctions - 1 - s)
closure_apart w f b s c = record {
  inside = omega (arith, pow_pos w.junctions);
  bits = λ k l.
      let e : not (has (2 ^ w.junctions - 1 - s) k) ≡ has s k = ap not (has_rest w.junctions s k c.inside l) ∙ not_not (has s k) in
      rw e (c.bits k l);
}

module _ (w : Network) (wired : Wired w) (f : List ℕ) (v near far : ℕ) (v-is : v ≡ outflow w f w.pump - inflow w f w.pump) (n : Reached w f w.pump near) (m : Apart w f w.outlet far)
    (flow : Flow w f) (none : (ss : List Step) → Path w f w.pump ss w.outlet → ⊥) where
  -- what is read off a flow that no path augments is the report
  pub surveyed : record { value = v; near = near; far = far } ≡ report_of w
  surveyed =
      let g = path_greatest w wired f flow none in
      let e : value w f ≡ pos v = (let q = greatest_value w wired f g in omega (arith, ints, q)) in
      sym (report_is w wired f v near far flow e n m (near_cut w wired f (greatest_apart w wired f g) near n).outlet_out)
