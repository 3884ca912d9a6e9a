-- In range, the number of pipes is small.
use Rattle.std.proofs.Common.{◌≡◌, ℕ, zero, suc, ◌≤◌, refl, inl, inr, arith}
use Rattle.paths.specs.Metrics.{Got, begun, longer, InRange}
use Rattle.paths.specs.Widths.{Width, unbounded}
use Rattle.paths.specs.Fews.{Few, no_few, few, lengthened}

got_few : (n p : ℕ) (a : Width) (l : Few) → l ≡ few p a → Got (few 0 unbounded) lengthened n l → p ≤ n
got_few n p a l e (begun b) = let z : p ≡ 0 = cc in omega arith
got_few (suc n) p a l e (longer no_few w h k b) = absurd (cc)
got_few (suc n) p a l e (longer (few q c) zero h k b) = absurd (cc)
got_few (suc n) p a l e (longer (few q c) (suc w) h k b) = let z : p ≡ suc q = cc in omega (arith, got_few n q c (few q c) refl h)

pub few_range : (n p : ℕ) (a : Width) → InRange (few 0 unbounded) no_few lengthened n (few p a) → p ≤ n
few_range n p a (inl e) = absurd (cc)
few_range n p a (inr h) = got_few n p a (few p a) refl h
