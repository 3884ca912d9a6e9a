-- A page call is refused for the first condition that it misses.
use Rattle.std.proofs.Common.{◌≡◌, ℕ, Bool, true, false, cond, ltb, leb, ◌↔◌, List, [], ◌∷◌, length, Some, Ok, Err, Result, refl, ap, ◌∙◌, arith}
use Rattle.std.proofs.lemmas.Bool.Decides.{nat_tests}
use Rattle.network.specs.Network.{Network}
use Rattle.network.specs.Residual.{size}
use Rattle.formats.specs.declared.refusal.Refusal.{Refusal}
use Rattle.formats.specs.declared.refusal.Refusal.TheVariants.{FewPlaces, LittleSpace}
use Rattle.formats.specs.Schedules.{Timed}
use Rattle.formats.specs.Sheets.{and_then}
use Rattle.texts.specs.Conditions.{Condition, first_missed, missed, junctions_said, pipes_said, steps_said, text_conditions}
use Rattle.texts.specs.Texts.{text_in}
use Rattle.texts.proofs.FirstMissed.{chain, refused_with}
use Rattle.texts.proofs.TextLaws.{text_missed, text_said}
use Rattle.rating.specs.Conditions.{page_conditions}
use Rattle.rating.specs.Pages.{page_length_of}
use Rattle.rating.specs.Ratings.{in_space, rating}

-- a test that is passed where another one is not
opposite : (m n : ℕ) → ltb n m ≡ cond (leb m n) false true
opposite m n = go (ltb n m) (leb m n) refl refl
  where
    go : (x y : Bool) → ltb n m ≡ x → leb m n ≡ y → x ≡ cond y false true
    go true true p q = absurd (grind (arith, nat_tests))
    go true false p q = refl
    go false true p q = refl
    go false false p q = absurd (grind (arith, nat_tests))

before : {A : Type 0} (t : Bool) (e : Refusal) (r : Result A Refusal) (cs : List Condition) → missed r ≡ first_missed cs → missed (cond (cond t false true) (Err e) r) ≡ first_missed (record { met = t; refusal = e } ∷ cs)
unfolding first_missed
before true e r cs h = h
before false e r cs h = refl

module _ (most places : ℕ) (text : List ℕ) (space : ℕ) where
  -- the space is tested by what the first lines of the text say
  space_missed : (r : Network × List Timed) → text_in most text ≡ Ok r
      → missed (in_space space r) ≡ first_missed (record { met = leb (page_length_of (steps_said text) (junctions_said text) (pipes_said text)) space; refusal = LittleSpace } ∷ [])
  unfolding in_space first_missed
  space_missed r p =
      let said = text_said most text r.0 r.1 p in
      let n = page_length_of (length r.1) r.0.junctions (size r.0) in
      ap (λ (t : Bool). missed (cond {A = Result (Network × List Timed) Refusal} t (Err LittleSpace) (Ok r))) (opposite n space)
      ∙ before (leb n space) LittleSpace (Ok r) [] refl
      ∙ (λ i. first_missed (record { met = leb (page_length_of (said.2 i) (said.0 i) (said.1 i)) space; refusal = LittleSpace } ∷ []))

  page_missed : missed (rating most places text space) ≡ first_missed (page_conditions most places text space)
  unfolding rating page_conditions
  page_missed =
      ap (λ (t : Bool). missed (cond {A = Result (Network × List Timed) Refusal} t (Err FewPlaces) (and_then (text_in most text) (in_space space)))) (opposite most places)
      ∙ before (leb most places) FewPlaces (and_then (text_in most text) (in_space space)) _ (chain (text_in most text) (in_space space) (text_conditions most text) _ (text_missed most text) space_missed)

  pub refused_first : (e : Refusal) → (rating most places text space ≡ Err e) ↔ (first_missed (page_conditions most places text space) ≡ Some e)
  refused_first e = refused_with (rating most places text space) (first_missed (page_conditions most places text space)) e page_missed
