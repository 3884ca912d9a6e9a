use Rattle.std.proofs.Common.{[], refl, arith, rules}
use Rattle.std.proofs.lemmas.Int.{ints}
use Rattle.network.specs.Flows.{Greatest}
use Rattle.network.specs.Network.{Wired, bare}
use Rattle.network.specs.Reports.{least_capacity, report_of}
use Rattle.network.proofs.Greatest.{dry_flow}
use Rattle.engines.proofs.settled.Settled.bare.Goals as goal

bare_wired : Wired bare
bare_wired = search rules

-- with no pipes no flow brings anything
bare_greatest : Greatest bare []
bare_greatest = record { flow = dry_flow bare bare_wired; greatest = λ g h. omega (arith, ints) }

pub invariant_of-result : goal.invariant_of-result
unfolding least_capacity report_of
invariant_of-result c = record { greatest = bare_greatest; reported = refl }
