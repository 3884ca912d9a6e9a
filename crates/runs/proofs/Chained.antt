-- Runs, call by call.
use Rattle.std.proofs.Common.{◌≡◌, ℕ, ◌<◌, min, List, [], ◌∷◌, ◌++◌, length, take, sym, ap, ◌∙◌, subst, arith, length-append}
use Rattle.std.proofs.lemmas.List.{take_at}
use Rattle.network.specs.Network.{Network}
use Rattle.interface.specs.Works.{Manner}
use Rattle.runs.specs.declared.answer.Answer.{Answer}
use Rattle.runs.specs.declared.call.Call.{Call}
use Rattle.runs.specs.Runs.{Answers, Run, ends, goes, Begun}

-- behind some calls one more was yielded: then these are fewer than all
pub fewer : (cs rest calls : List Call) (c : Call) → cs ++ c ∷ rest ≡ calls → length cs < length calls
fewer cs rest calls c e = omega (arith, ap length e, length-append cs (c ∷ rest))

module _ {Λ : Type 0} (most : ℕ) (manner : Manner) (good : Λ → Λ → Type 0) (start : Λ) (extended : Λ → ℕ → Λ) (room : ℕ) where
  one_more : {w u v : Network} {f g h : List ℕ} {cs : List Call} {told : List Answer} {a : Answer} (c : Call)
      → Run most manner good start extended room w f cs told u g → Answers most manner good start extended (min c.places room) u g c.request a v h
      → Run most manner good start extended room w f (cs ++ c ∷ []) (told ++ a ∷ []) v h
  one_more c ends s = goes s ends
  one_more c (goes t l) s = goes t (one_more c l s)

  pub begins : (w : Network) (f : List ℕ) (items : List Answer) → items ≡ [] → Run most manner good start extended room w f [] items w f
  begins w f items e = subst (λ (ys : List Answer). Run most manner good start extended room w f [] ys w f) (sym e) ends

  pub goes_on : (seen : ℕ) (cs : List Call) (c : Call) (w u v : Network) (f g h : List ℕ) (told items : List Answer) (a : Answer) → seen ≡ room
      → Run most manner good start extended room w f cs told u g → Answers most manner good start extended (min c.places seen) u g c.request a v h → items ≡ told ++ a ∷ []
      → Run most manner good start extended room w f (cs ++ c ∷ []) items v h
  goes_on seen cs c w u v f g h told items a e l s p =
      subst (λ (ys : List Answer). Run most manner good start extended room w f (cs ++ c ∷ []) ys v h) (sym p)
      (one_more c l (subst (λ (x : ℕ). Answers most manner good start extended (min c.places x) u g c.request a v h) e s))

  pub begun : (cs rest calls : List Call) (w u : Network) (f g : List ℕ) (told items : List Answer) → cs ++ rest ≡ calls → length told ≡ length cs → items ≡ told
      → Run most manner good start extended room w f cs told u g → Begun most manner good start extended room w f calls items
  begun cs rest calls w u f g told items e n same l =
      let first : cs ≡ take (length items) calls = sym (ap (take (length items)) (sym e) ∙ take_at cs rest (length items) (sym (ap length same ∙ n))) in
      record {
        network = u;
        flow = g;
        run = subst (λ (ys : List Answer). Run most manner good start extended room w f (take (length items) calls) ys u g) (sym same)
            (subst (λ (xs : List Call). Run most manner good start extended room w f xs told u g) first l);
      }
