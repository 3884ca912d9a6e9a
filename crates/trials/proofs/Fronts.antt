-- A text that is rated on the front of a space.
use Rattle.std.proofs.Common.{◌≡◌, ℕ, ◌+◌, ◌≤◌, List, ◌++◌, length, take, drop, replicate, min, Ok, Err, Result, sym, ap, ◌∙◌, arith, append_assoc, length-append, length-drop, take-append-drop}
use Rattle.std.proofs.lemmas.List.{length-take, drop-append-le}
use Rattle.network.specs.Network.{Network}
use Rattle.formats.specs.declared.refusal.Refusal.{Refusal}
use Rattle.formats.specs.Schedules.{Timed}
use Rattle.formats.specs.Spaces.{put_at}
use Rattle.rating.specs.Pages.{page_of}
use Rattle.rating.specs.Ratings.{rating}
use Rattle.trials.specs.Rated.{length_by, page_by, Rated}

-- what stands at the front of a space's first bytes stands at the front of the space
put_within : (bs old front : List ℕ) (r : ℕ) → r ≤ length old → length front ≡ length (take r old) → front ≡ put_at 0 bs (take r old)
    → front ++ drop r old ≡ put_at 0 bs old
unfolding put_at
put_within bs old front r inside same e =
    let n = 0 + length bs in
    let part = drop n (take r old) in
    let long : length front ≡ length bs + length part = ap length e ∙ length-append bs part in
    let few : n ≤ length (take r old) = omega (arith, long, same, length-drop n (take r old)) in
    ap (λ l. l ++ drop r old) e
    ∙ append_assoc bs part (drop r old)
    ∙ ap (λ l. bs ++ l) (sym (drop-append-le n (take r old) (drop r old) few) ∙ ap (drop n) (take-append-drop r old))

-- what was rated on the first bytes, with so many places
module _ (most places room space works : ℕ) (text old front : List ℕ) (r : ℕ)
    (blank : old ≡ replicate space 126) (long : length old ≡ space) (cut : r ≡ min room (length old)) where
  in_room : length (take r old) ≡ min room space
  in_room = length-take r old ∙ omega (arith, cut, long)

  given : (v : Result (Network × List Timed) Refusal) → works ≡ places → rating most works text (length (take r old)) ≡ v → rating most places text (min room space) ≡ v
  given v same e = sym (ap (λ k. rating most k text (length (take r old))) same ∙ ap (rating most places text) in_room) ∙ e

  pub page_front : (n : ℕ) (w : Network) (ss : List Timed) → works ≡ places → rating most works text (length (take r old)) ≡ Ok (w, ss) → n ≡ length (page_of w ss)
      → length front ≡ length (take r old) → front ≡ put_at 0 (page_of w ss) (take r old) → Rated most places text (min room space) space (Ok n) (front ++ drop r old)
  page_front n w ss same e m kept f =
      let v = given (Ok (w, ss)) same e in
      record {
        answered = ap Ok m ∙ sym (ap length_by v);
        written = put_within (page_of w ss) old front r (omega (arith, cut)) kept f ∙ ap (put_at 0 (page_of w ss)) blank ∙ sym (ap (page_by (replicate space 126)) v);
      }

  pub same_front : (e : Refusal) → works ≡ places → rating most works text (length (take r old)) ≡ Err e → front ≡ take r old
      → Rated most places text (min room space) space (Err e) (front ++ drop r old)
  same_front e same d f =
      let v = given (Err e) same d in
      record {
        answered = sym (ap length_by v);
        written = ap (λ l. l ++ drop r old) f ∙ take-append-drop r old ∙ blank ∙ sym (ap (page_by (replicate space 126)) v);
      }
