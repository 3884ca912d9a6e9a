-- What rating a text by a new engine gives, on a space in which nothing was written.
use Rattle.std.specs.Prelude.{◌≡◌, ℕ, List, length, replicate, Ok, Err, Result}
use Rattle.network.specs.Network.{Network}
use Rattle.formats.specs.declared.refusal.Refusal.{Refusal}
use Rattle.formats.specs.Schedules.{Timed}
use Rattle.formats.specs.Sheets.{and_then}
use Rattle.formats.specs.Spaces.{put_at}
use Rattle.rating.specs.Pages.{page_of}
use Rattle.rating.specs.Ratings.{rating}

-- the answer: how long the page is, or the reason for which there is none
abbrev pub length_by : Result (Network × List Timed) Refusal → Result ℕ Refusal
length_by v = and_then v (λ r. Ok (length (page_of r.0 r.1)))

-- the page at the front of a space, of which the rest stays
abbrev pub page_by : List ℕ → Result (Network × List Timed) Refusal → List ℕ
page_by space (Ok r) = put_at 0 (page_of r.0 r.1) space
page_by space (Err e) = space

-- an engine of so many junctions, with so many places and so many bytes of a space in which nothing is written, rates the
-- text so, and the whole space holds this after
pub record Rated (most places : ℕ) (text : List ℕ) (room space : ℕ) (answer : Result ℕ Refusal) (after : List ℕ) : Type 0 where
  pub answered : answer ≡ length_by (rating most places text room)
  pub written : after ≡ page_by (replicate space 126) (rating most places text room)
