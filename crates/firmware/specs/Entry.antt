-- What the entry for firmware does to the two runs of bytes that it is given.
use Rattle.std.specs.Prelude.{◌≡◌, ℕ, List, length, Ok, Err, Result}
use Rattle.network.specs.Network.{Network}
use Rattle.formats.specs.declared.refusal.Refusal.{Refusal}
use Rattle.formats.specs.Refusals.{number}
use Rattle.formats.specs.Schedules.{Timed}
use Rattle.formats.specs.Spaces.{put_at}
use Rattle.rating.specs.Pages.{page_of}
use Rattle.rating.specs.Ratings.{rating}

-- a text that is accepted: 0, and the page at the front of the space; one that is refused: the refusal's number, and the space as it was
abbrev pub RatedBy : Result (Network × List Timed) Refusal → List ℕ → ℕ → List ℕ → Type 0
RatedBy (Ok p) before answer after = (answer ≡ 0) × (after ≡ put_at 0 (page_of p.0 p.1) before)
RatedBy (Err e) before answer after = (answer ≡ number e) × (after ≡ before)

-- an engine of 64 junctions, with as many places
abbrev pub Rated : List ℕ → List ℕ → ℕ → List ℕ → Type 0
Rated text before answer after = RatedBy (rating 64 64 text (length before)) before answer after
