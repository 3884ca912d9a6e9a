-- One step after the other.
use Rattle.std.proofs.Common.{◌≡◌, ℕ, suc, ◌+◌, ◌*◌, ◌<◌, ◌≤◌, List, [], ◌∷◌, ◌++◌, map, length, get_or, take, sym, ap, ◌∙◌, subst, mul-le-mul_right, suc-mul, arith}
use Rattle.std.specs.List.{AllByRecursion}
use Rattle.std.proofs.lemmas.Nat.{mul-le}
use Rattle.std.proofs.ByRecursion.{All-get_or}
use Rattle.std.proofs.lemmas.List.{length-map, get_or-map, map_more}
use Rattle.network.specs.Network.{Network}
use Rattle.network.specs.Reports.{report_of}
use Rattle.network.specs.Residual.{size}
use Rattle.formats.specs.declared.schedule.TimedPattern.{TimedPattern}
use Rattle.formats.specs.Pages.{total_line}
use Rattle.formats.specs.Schedules.{Timed, SoundStep, timed}
use Rattle.formats.specs.Spaces.{put_at}
use Rattle.interface.specs.Verdicts.{patterned}
use Rattle.rating.specs.Pages.{step_lines, stepped, all_lines, litres, last_network, page_of}
use Rattle.rating.proofs.Growing.{last_none, lines_none, litres_none, last_more, lines_more, litres_more}
use Rattle.rating.proofs.Lengths.{all_length}
use Rattle.rating.proofs.Writing.{then}
use Rattle.writing.proofs.Puts.{put_none}
use Rattle.texts.proofs.Reading.{steps_length}

pub step_at : (steps : List TimedPattern) (k pipes : ℕ) (d : TimedPattern) → k < length steps → AllByRecursion (SoundStep pipes) (map timed steps) → SoundStep pipes (timed (get_or steps k d))
step_at steps k pipes d h all =
    subst (SoundStep pipes) (get_or-map timed steps k d (timed d) h) (All-get_or (SoundStep pipes) (map timed steps) k (timed d) (omega (arith, length-map {A = TimedPattern} {B = Timed})) all)

-- there is room for one step more
pub room : (k n per space : ℕ) → k < n → n * per ≤ space → k * per + per ≤ space
room k n per space h fits = let more : suc k * per ≤ n * per = mul-le-mul_right per (let i : suc k ≤ n = omega arith in i) in omega (arith, suc-mul k per)

-- no step has more litres
pub step_litres : (steps : List TimedPattern) (k pipes : ℕ) (d : TimedPattern) (value : ℕ) → k < length steps → AllByRecursion (SoundStep pipes) (map timed steps) → value ≤ 30720000 → value * (get_or steps k d).minutes ≤ 44236800000
step_litres steps k pipes d value h all few = omega (arith, mul-le value (get_or steps k d).minutes 30720000 1440 few (step_at steps k pipes d h all).few)

-- what the first steps have made of engine, page and total
pub record Rated (w : Network) (space : List ℕ) (ss : List Timed) (u : Network) (page : List ℕ) (total : ℕ) : Type 0 where
  pub means : u ≡ last_network w ss
  pub written : page ≡ put_at 0 (all_lines 1 w ss) space
  pub litres_are : total ≡ litres w ss

pub rated_none : (w : Network) (space : List ℕ) → Rated w space [] w space 0
rated_none w space = record {
  means = sym (last_none w);
  written = sym (ap (λ (l : List ℕ). put_at 0 l space) (lines_none 1 w) ∙ put_none space 0 (omega arith));
  litres_are = sym (litres_none w);
}

module _ (w : Network) (space : List ℕ) (steps : List TimedPattern) (k : ℕ) (d : TimedPattern) (inside : k < length steps) (u v : Network) (page after : List ℕ) (total value at : ℕ) where
  pub rated_more : Rated w space (map timed (take k steps)) u page total → v ≡ patterned u (timed (get_or steps k d)).letters
      → at ≡ k * (w.junctions + size w + 29) → after ≡ put_at at (step_lines (k + 1) (patterned u (timed (get_or steps k d)).letters)) page → value ≡ (report_of (patterned u (timed (get_or steps k d)).letters)).value
      → Rated w space (map timed (take (k + 1) steps)) v after (total + value * (timed (get_or steps k d)).minutes)
  unfolding stepped
  rated_more r m a p q =
      let s = timed (get_or steps k d) in
      let ss = map timed (take k steps) in
      let more : map timed (take (k + 1) steps) ≡ map timed (take k steps) ++ timed (get_or steps k d) ∷ [] = map_more timed steps k d inside in
      let long : length (map timed (take k steps)) ≡ k = steps_length steps k (omega arith) in
      let at_is : at ≡ 0 + length (all_lines 1 w (map timed (take k steps))) = omega (arith, a ∙ ap (λ (n : ℕ). n * (w.junctions + size w + 29)) (sym long) ∙ sym (all_length 1 w (map timed (take k steps)))) in
      let next : patterned u (timed (get_or steps k d)).letters ≡ stepped (last_network w (map timed (take k steps))) (timed (get_or steps k d)) = ap (λ (x : Network). stepped x s) r.means in
      let number : k + 1 ≡ 1 + length (map timed (take k steps)) = omega arith in
      let lines : all_lines 1 w (map timed (take k steps)) ++ step_lines (k + 1) (patterned u (timed (get_or steps k d)).letters) ≡ all_lines 1 w (map timed (take (k + 1) steps)) =
      (λ x. all_lines 1 w ss ++ step_lines (number x) (next x)) ∙ sym (lines_more 1 w ss s) ∙ sym (ap (all_lines 1 w) more) in
      record {
        means = m ∙ next ∙ sym (last_more w ss s) ∙ sym (ap (last_network w) more);
        written = then space 0 (omega arith) (all_lines 1 w ss) (step_lines (k + 1) (patterned u s.letters)) page after at r.written p at_is ∙ ap (λ (l : List ℕ). put_at 0 l space) lines;
        litres_are = (λ x. r.litres_are x + (q ∙ ap (λ (y : Network). (report_of y).value) next) x * s.minutes) ∙ sym (litres_more w ss s) ∙ sym (ap (litres w) more);
      }

-- the last line
pub page_done : (w : Network) (space : List ℕ) (ss : List Timed) (u : Network) (page after : List ℕ) (total at : ℕ) → Rated w space ss u page total → at ≡ length ss * (w.junctions + size w + 29)
    → after ≡ put_at at (total_line total) page → after ≡ put_at 0 (page_of w ss) space
unfolding page_of
page_done w space ss u page after total at r a p =
    let at_is : at ≡ 0 + length (all_lines 1 w ss) = omega (arith, a ∙ sym (all_length 1 w ss)) in
    then space 0 (omega arith) (all_lines 1 w ss) (total_line total) page after at r.written p at_is
    ∙ ap (λ (n : ℕ). put_at 0 (all_lines 1 w ss ++ total_line n) space) r.litres_are
