-- The numbers of a page fit their columns.
use Rattle.std.specs.Prelude.{◌^◌, ◌<◌, List, [], ◌∷◌, length}
use Rattle.network.specs.Network.{Network}
use Rattle.network.specs.Reports.{report_of}
use Rattle.formats.specs.Schedules.{Timed}
use Rattle.rating.specs.Pages.{stepped, litres}

-- the value at each step
abbrev pub ValuesFit : Network → List Timed → Type 0
ValuesFit w [] = Unit {0}
ValuesFit w (s ∷ ss) = ((report_of (stepped w s)).value < 10 ^ 9) × ValuesFit (stepped w s) ss

pub record NumbersFit (w : Network) (ss : List Timed) : Type 0 where
  pub steps : length ss < 10 ^ 5
  pub values : ValuesFit w ss
  pub total : litres w ss < 10 ^ 14
