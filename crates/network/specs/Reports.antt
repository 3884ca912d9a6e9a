-- The report of a network, by a list of all its cuts.
use Rattle.std.specs.Prelude.{ℕ, zero, suc, ◌-◌, ◌^◌, min, Bool, not, ◌&&◌, List, [], ◌∷◌, fold, sum_by, filter, bit_and, bit_or, nat_eq}
use Rattle.network.specs.Cuts.{has, capacity}
use Rattle.network.specs.Network.{Network}
use Rattle.network.specs.declared.report.Report.{Report}

-- the numbers below n
abbrev pub below : ℕ → List ℕ
below zero = []
below (suc n) = n ∷ below n

-- of the words below 2 ^ junctions, those that are cuts
abbrev pub is_cut : Network → ℕ → Bool
is_cut w s = has s w.pump && not (has s w.outlet)

abbrev pub cuts : Network → List ℕ
cuts w = filter (is_cut w) (below (2 ^ w.junctions))

-- the sum of all limits, which no capacity exceeds
abbrev pub all_limits : Network → ℕ
all_limits w = sum_by (λ p. p.limit) w.pipes

-- the smallest capacity of a cut
unfoldable pub least_capacity : Network → ℕ
least_capacity w = fold (λ m s. min m (capacity w s)) (all_limits w) (cuts w)

-- the cuts that have it
abbrev pub minimum_cuts : Network → List ℕ
minimum_cuts w = filter (λ s. nat_eq (capacity w s) (least_capacity w)) (cuts w)

-- the least capacity, the junctions in every minimum cut, and those in at least one
unfoldable pub report_of : Network → Report
report_of w = record {
  value = least_capacity w;
  near = fold bit_and (2 ^ w.junctions - 1) (minimum_cuts w);
  far = fold bit_or 0 (minimum_cuts w);
}
