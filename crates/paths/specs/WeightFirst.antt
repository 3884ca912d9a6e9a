-- An order that is not a path metric's: the greater smallest weight first, then fewer pipes.
use Rattle.std.specs.Prelude.{◌≤◌}
use Rattle.paths.specs.Widths.{Wider}
use Rattle.paths.specs.Fews.{Few, no_few, few}

abbrev pub IsWeightFirst : Few → Few → Type 0
IsWeightFirst no_few no_few = Unit {0}
IsWeightFirst no_few (few q b) = ⊥
IsWeightFirst (few p a) no_few = Unit {0}
IsWeightFirst (few p a) (few q b) = Wider a b × (Wider b a → p ≤ q)
