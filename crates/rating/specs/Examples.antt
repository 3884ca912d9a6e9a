-- A text with its page: what a reader can compare line by line.
use Rattle.std.specs.Prelude.{◌≡◌, ℕ, List, [], ◌∷◌, ◌++◌, Ok, Err, codes, Result}
use Rattle.network.specs.Network.{Network}
use Rattle.formats.specs.declared.refusal.Refusal.{Refusal}
use Rattle.formats.specs.declared.refusal.Refusal.TheVariants.{FewPlaces, LittleSpace}
use Rattle.formats.specs.Schedules.{Timed}
use Rattle.formats.specs.Sheets.{and_then}
use Rattle.rating.specs.Pages.{page_of}
use Rattle.rating.specs.Ratings.{rating}

-- each line with its line feed
abbrev pub lines : List (List ℕ) → List ℕ
lines [] = []
lines (l ∷ ls) = l ++ 10 ∷ lines ls

abbrev pub example_text : List ℕ
example_text = lines (
    codes "NETW    4    5    0    3"
    ∷ codes "PIPE    0    1   30    O"
    ∷ codes "PIPE    0    2   20    O"
    ∷ codes "PIPE    1    2   10    O"
    ∷ codes "PIPE    1    3   25    O"
    ∷ codes "PIPE    2    3   25    O"
    ∷ codes "SCHD    3"
    ∷ codes "STEP   60====="
    ∷ codes "STEP   30===C="
    ∷ codes "STEP   45=C=O="
    ∷ []
    )

abbrev pub worked_page : List ℕ
worked_page = lines (
    codes "RATE    1       50NBBD"
    ∷ codes "GOVN    1....."
    ∷ codes "RATE    2       25NNND"
    ∷ codes "GOVN    2....G"
    ∷ codes "RATE    3       30NDDD"
    ∷ codes "GOVN    3G...."
    ∷ codes "TOTL          5100"
    ∷ []
    )

-- the page that a verdict leads to
abbrev pub page_by : Result (Network × List Timed) Refusal → Result (List ℕ) Refusal
page_by v = and_then v (λ r. Ok (page_of r.0 r.1))

-- the example, for an engine of 64 junctions: a page of 133 bytes; a byte too few, a place too few
pub record Examples : Type 0 where
  pub page : page_by (rating 64 64 example_text 133) ≡ Ok worked_page
  pub short : rating 64 64 example_text 132 ≡ Err LittleSpace
  pub few : rating 64 63 example_text 133 ≡ Err FewPlaces
