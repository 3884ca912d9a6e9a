-- The conditions on a page call in their order, each with the refusal that is given where it is the first missed: workspace
-- places enough, then those of the text, last a space that holds the page.
use Rattle.std.specs.Prelude.{ℕ, List, [], ◌∷◌, ◌++◌, nat_le}
use Rattle.formats.specs.declared.refusal.Refusal.TheVariants.{FewPlaces, LittleSpace}
use Rattle.texts.specs.Conditions.{Condition, junctions_said, pipes_said, steps_said, text_conditions}
use Rattle.rating.specs.Pages.{page_length_of}

unfoldable pub page_conditions : (most places : ℕ) → List ℕ → (space : ℕ) → List Condition
page_conditions most places text space =
    record { met = nat_le most places; refusal = FewPlaces }
    ∷ (text_conditions most text
    ++ record { met = nat_le (page_length_of (steps_said text) (junctions_said text) (pipes_said text)) space; refusal = LittleSpace } ∷ [])
