-- Ordering by the smallest weight first and then by fewer pipes breaks law 4.
use Rattle.std.proofs.Common.{refl, inr, arith}
use Rattle.paths.specs.Metrics.{begun, longer, InRange, Laws}
use Rattle.paths.specs.Widths.{unbounded, width}
use Rattle.paths.specs.Fews.{no_few, few, lengthened}
use Rattle.paths.specs.WeightFirst.{IsWeightFirst}

one : InRange (few 0 unbounded) no_few lengthened 63 (few 1 (width 5))
one = inr (longer (few 0 unbounded) 5 (begun refl) (omega arith) refl)

two : InRange (few 0 unbounded) no_few lengthened 63 (few 2 (width 10))
two = inr (longer (few 1 (width 10)) 10 (longer (few 0 unbounded) 10 (begun refl) (omega arith) refl) (omega arith) refl)

-- two pipes of 10 are better than one of 5, and after a pipe of 3 they are not
pub weight_first_breaks : Laws IsWeightFirst (few 0 unbounded) no_few lengthened → ⊥
weight_first_breaks laws =
    let kept : IsWeightFirst (few 3 (width 3)) (few 2 (width 3)) = laws.keeps (few 2 (width 10)) (few 1 (width 5)) 3 two one (omega arith) (omega arith, λ h. omega arith) in
    let fewer = kept.1 (omega arith) in
    omega arith
