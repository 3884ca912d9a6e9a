-- An answer in the first labels of a longer row is one in the row.
use Rattle.std.proofs.Common.{◌≡◌, ℕ, ◌<◌, List, [], ◌∷◌, ◌++◌, map, length, get_or, Some, None, Option, ap, ◌∙◌, inl, inr, arith}
use mathlib.Core.List.{map-append}
use lib.ListN.{length-map}
use Rattle.std.proofs.lemmas.Bool.{cases_lt}
use Rattle.std.proofs.lemmas.List.{get_or_append_left, get_or_past}
use Rattle.network.specs.declared.step.Step.{Step}
use Rattle.network.specs.Network.{Network}
use Rattle.network.specs.Residual.{tail}
use Rattle.paths.specs.declared.label.Label.{Label}
use Rattle.paths.specs.BestPaths.{via_at, Chain, Answer}

module _ {L : Type 0} (xs ys : List (Label L)) where
  via_part : (b : ℕ) → b < length xs → via_at (xs ++ ys) b ≡ via_at xs b
  via_part b h =
      let k : b < length (map (λ (l : Label L). l.via) xs) = simp length-map h in
      ap (λ zs. get_or zs b None) (map-append (λ (l : Label L). l.via) xs ys) ∙ get_or_append_left (map (λ (l : Label L). l.via) xs) (map (λ (l : Label L). l.via) ys) None b k

  via_inside : (b : ℕ) (s : Step) → via_at xs b ≡ Some s → b < length xs
  via_inside b s e = elim (cases_lt b (length xs)) [
    | inl h ↦ h
    | inr h ↦ absurd (cc (e, get_or_past (map (λ (l : Label L). l.via) xs) b None (simp length-map h)))
  ]

  chain_part : (w : Network) (a : ℕ) → a < length xs → (ss : List Step) (b : ℕ) → Chain w a (via_at xs) ss b → Chain w a (via_at (xs ++ ys)) ss b
  chain_part w a a_in [] b h = (h.0, via_part b (let e = h.0 in omega arith) ∙ h.1)
  chain_part w a a_in (s ∷ ss) b h = (via_part b (via_inside b s h.0) ∙ h.0, chain_part w a a_in ss (tail w s) h.1)

  pub answer_part : {Λ : Type 0} (w : Network) (f : List ℕ) (a b : ℕ) (means : L → Λ) (good : Λ → Λ → Type 0) (start : Λ) (extended : Λ → ℕ → Λ) → a < length xs → b < length xs
      → (r : Option (Label L)) → Answer w f a b means good start extended xs r → Answer w f a b means good start extended (xs ++ ys) r
  answer_part w f a b means good start extended a_in b-in (Some l) h = record {
    steps = h.steps;
    stands = get_or_append_left xs ys l b b-in ∙ h.stands;
    spelled = chain_part w a a_in h.steps b h.spelled;
    leads = h.leads;
    is = h.is;
    best = h.best;
  }
  answer_part w f a b means good start extended a_in b-in None h = h
