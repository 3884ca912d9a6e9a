-- One request: what an engine ensured of it, as an answer.
use Rattle.std.proofs.Common.{◌≡◌, ℕ, List, length, Ok, Err, vec_items, Result, Vec, refl, sym, ap, ◌∙◌, subst}
use Rattle.std.specs.Result.{MatchResult}
use Rattle.std.specs.declared.alloc.Global.{Global}
use Rattle.network.specs.Network.{Network}
use Rattle.formats.specs.declared.refusal.Refusal.{Refusal}
use Rattle.formats.specs.Spaces.{put_at}
use Rattle.formats.specs.Written.{sheet_of}
use Rattle.interface.specs.Verdicts.{writing, reading}
use Rattle.interface.specs.Works.{Manner}
use Rattle.runs.specs.declared.answer.Answer.{Answer}
use Rattle.runs.specs.declared.answer.Answer.TheVariants.{Sheet, Flow, SheetRefused, FlowRefused}
use Rattle.runs.specs.declared.call.Request.{Request}
use Rattle.runs.specs.declared.call.Request.TheVariants.{WriteSheet, ReadFlow}
use Rattle.runs.specs.Runs.{Answers, writes, not_writes, reads, not_reads}

-- what an engine ensured of a call, and what became of the call's answer
pub told : {X : Type 0} (P P' : X → Type 0) (Q Q' : Refusal → Type 0) (C : Type 0) (r : Result X Refusal) → elim r as (λ x. Type 0) [ Ok x ↦ P x | Err e ↦ Q e ] → MatchResult r P' Q' → ((x : X) → P x → P' x → C) → ((e : Refusal) → Q e → Q' e → C) → C
told P P' Q Q' C (Ok x) h i one other = one x h i
told P P' Q Q' C (Err e) h i one other = other e h i

-- the same of a call that leaves the engine
pub answered : {X : Type 0} (r : Result X Refusal) (P : X → Type 0) (Q : Refusal → Type 0) {C : Type 0} → MatchResult r P Q → ((x : X) → r ≡ Ok x → P x → C) → ((e : Refusal) → r ≡ Err e → Q e → C) → C
answered (Ok x) P Q i one other = one x refl i
answered (Err e) P Q i one other = other e refl i

module _ {Λ : Type 0} {most : ℕ} {manner : Manner} {good : Λ → Λ → Type 0} {start : Λ} {extended : Λ → ℕ → Λ} where
  pub at_request : {p : ℕ} {w u : Network} {f g : List ℕ} {a : Answer} {q s : Request} → q ≡ s
      → Answers most manner good start extended p w f s a u g → Answers most manner good start extended p w f q a u g
  at_request {p} {w} {u} {f} {g} {a} e h = subst (λ (x : Request). Answers most manner good start extended p w f x a u g) (sym e) h

  pub at_answer : {p : ℕ} {w u : Network} {f g : List ℕ} {a b : Answer} {q : Request} → a ≡ b
      → Answers most manner good start extended p w f q b u g → Answers most manner good start extended p w f q a u g
  at_answer {p} {w} {u} {f} {g} {a} {b} {q} e h = subst (λ (x : Answer). Answers most manner good start extended p w f q x u g) (sym e) h

  pub at_places : {p n : ℕ} {w u : Network} {f g : List ℕ} {a : Answer} {q : Request} → p ≡ n
      → Answers most manner good start extended p w f q a u g → Answers most manner good start extended n w f q a u g
  at_places {p} {n} {w} {u} {f} {g} {a} {q} e h = subst (λ (x : ℕ). Answers most manner good start extended x w f q a u g) e h

  -- a refused call left the engine
  pub stays : {p : ℕ} {E : Type 0} (meaning : E → Network) (kept : E → List ℕ) (old new : E) {q : Request} {a : Answer} → new ≡ old
      → Answers most manner good start extended p (meaning old) (kept old) q a (meaning old) (kept old)
      → Answers most manner good start extended p (meaning old) (kept old) q a (meaning new) (kept new)
  stays {p} {E} meaning kept old new {q} {a} e h =
      subst (λ (x : E). Answers most manner good start extended p (meaning old) (kept old) q a (meaning x) (kept x)) (sym e) h

  -- the caller's space was lent and written
  module _ (p : ℕ) (w : Network) (f : List ℕ) (space : Vec ℕ Global) (old : List ℕ) (same : old ≡ vec_items space) where
    pub written : (n : ℕ) (v : Vec ℕ Global) (new : List ℕ) → vec_items v ≡ new → writing (length old) w ≡ Ok n → new ≡ put_at 0 (sheet_of w) old
        → Answers most manner good start extended p w f (WriteSheet space) (Sheet n v) w f
    written n v new i y e = writes (ap (λ (o : List ℕ). writing (length o) w) (sym same) ∙ y) (i ∙ e ∙ ap (put_at 0 (sheet_of w)) same)

    pub not_written : (e : Refusal) (v : Vec ℕ Global) (new : List ℕ) → vec_items v ≡ new → writing (length old) w ≡ Err e → new ≡ old
        → Answers most manner good start extended p w f (WriteSheet space) (SheetRefused e v) w f
    not_written d v new i y e = not_writes (ap (λ (o : List ℕ). writing (length o) w) (sym same) ∙ y) (i ∙ e ∙ same)

    pub read : (n : ℕ) (v : Vec ℕ Global) (new : List ℕ) → vec_items v ≡ new → reading (length old) w ≡ Ok n → new ≡ put_at 0 f old
        → Answers most manner good start extended p w f (ReadFlow space) (Flow n v) w f
    read n v new i y e = reads (ap (λ (o : List ℕ). reading (length o) w) (sym same) ∙ y) (i ∙ e ∙ ap (put_at 0 f) same)

    pub not_read : (e : Refusal) (v : Vec ℕ Global) (new : List ℕ) → vec_items v ≡ new → reading (length old) w ≡ Err e → new ≡ old
        → Answers most manner good start extended p w f (ReadFlow space) (FlowRefused e v) w f
    not_read d v new i y e = not_reads (ap (λ (o : List ℕ). reading (length o) w) (sym same) ∙ y) (i ∙ e ∙ same)
