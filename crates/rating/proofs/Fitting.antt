-- No number of a page is too long for its columns.
use Rattle.std.proofs.Common.{◌+◌, ℕ, ◌*◌, ◌≤◌, List, [], ◌∷◌, length, arith, ◌≡◌, Bool, cond, Ok, Err, Result, sym, refl, ap, ◌∙◌}
use Rattle.std.specs.List.{AllByRecursion}
use Rattle.std.proofs.lemmas.Nat.{mul-le}
use Rattle.network.specs.Network.{Network, Sound}
use Rattle.network.specs.Reports.{report_of}
use Rattle.network.specs.Residual.{size}
use Rattle.network.proofs.Enumerated.{value_small}
use Rattle.formats.specs.Schedules.{Timed, SoundStep}
use Rattle.interface.proofs.Patterned.{patterned_sound}
use Rattle.texts.specs.Laws.{SoundSchedule}
use Rattle.std.proofs.lemmas.Bool.{le-ltb}
use Rattle.formats.specs.declared.refusal.Refusal.{Refusal}
use Rattle.formats.specs.declared.refusal.Refusal.TheVariants.{LittleSpace}
use Rattle.formats.specs.Sheets.{and_then}
use Rattle.texts.specs.Texts.{text_in}
use Rattle.texts.proofs.TextLaws.{text_laws}
use Rattle.rating.specs.Ratings.{in_space, rating}
use Rattle.rating.proofs.Unrefused.{placed}
use Rattle.rating.specs.Fits.{ValuesFit, NumbersFit}
use Rattle.rating.specs.Pages.{stepped, litres, page_length_of}

values_fit : (w : Network) (ss : List Timed) → Sound w → ValuesFit w ss
unfolding stepped
values_fit w [] s = tt
values_fit w (t ∷ ss) s =
    let u = patterned_sound w t.letters s in
    let few = value_small (stepped w t) u in
    (omega (arith, few), values_fit (stepped w t) ss u)

litres_few : (pipes : ℕ) (w : Network) (ss : List Timed) → Sound w → AllByRecursion (SoundStep pipes) ss → litres w ss ≤ length ss * 44236800000
unfolding stepped litres
litres_few pipes w [] s h = omega arith
litres_few pipes w (t ∷ ss) s h =
    let u = patterned_sound w t.letters s in
    omega (arith, mul-le (report_of (stepped w t)).value t.minutes 30720000 1440 (value_small (stepped w t) u) h.0.few, litres_few pipes (stepped w t) ss u h.1)

pub numbers_fit : (w : Network) (ss : List Timed) → Sound w → SoundSchedule (size w) ss → NumbersFit w ss
numbers_fit w ss s h = record { steps = omega (arith, h.few); values = values_fit w ss s; total = omega (arith, h.few, litres_few (size w) w ss s h.steps) }

page_short : (steps junctions pipes : ℕ) → steps ≤ 100 → junctions ≤ 64 → pipes ≤ 512 → page_length_of steps junctions pipes ≤ 60519
page_short steps junctions pipes s j p = omega (arith, mul-le steps (junctions + pipes + 29) 100 605 s (omega arith))

-- a space for the longest page is enough for every text, so only the text is judged
pub space_enough : (most : ℕ) → most ≤ 64 → (text : List ℕ) → rating most most text 60519 ≡ text_in most text
unfolding rating in_space
space_enough most held text = placed most most (and_then (text_in most text) (in_space 60519)) (omega arith) ∙ judged (text_in most text) refl
  where
    judged : (r : Result (Network × List Timed) Refusal) → text_in most text ≡ r → and_then r (in_space 60519) ≡ text_in most text
    judged (Ok p) e =
        let a = ((text_laws most held).taken text p.0 p.1).0 e in
        let fits = page_short (length p.1) p.0.junctions (size p.0) a.1.few a.0.sound.most a.0.sound.held in
        ap (λ (t : Bool). cond {A = Result (Network × List Timed) Refusal} t (Err LittleSpace) (Ok p)) (le-ltb 60519 (page_length_of (length p.1) p.0.junctions (size p.0)) fits) ∙ sym e
    judged (Err d) e = sym e
