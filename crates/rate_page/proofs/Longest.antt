-- What a page call in the space for the longest page does, by the text alone.
use Rattle.std.proofs.Common.{◌≡◌, ℕ, List, Ok, Err, Result, sym, ◌∙◌, arith}
use Rattle.network.specs.Network.{Network}
use Rattle.formats.specs.declared.refusal.Refusal.{Refusal}
use Rattle.formats.specs.Schedules.{Timed}
use Rattle.texts.specs.Texts.{text_in}
use Rattle.rating.specs.Ratings.{rating}
use Rattle.rating.proofs.Fitting.{space_enough}

pub by_text : (text : List ℕ) (places space : ℕ) (r : Result (Network × List Timed) Refusal) → places ≡ 64 → space ≡ 60519 → rating 64 places text space ≡ r → text_in 64 text ≡ r
by_text text places space r p s e = sym (space_enough 64 (omega arith) text) ∙ (λ i. rating 64 (sym p i) text (sym s i)) ∙ e

-- what follows in either case
pub in_either : {A : Type 0} (P Q : A → Type 0) (R S : Refusal → Type 0) (r : Result A Refusal) → ((x : A) → P x → Q x) → ((e : Refusal) → R e → S e)
    → elim r as (λ x. Type 0) [ Ok x ↦ P x | Err e ↦ R e ] → elim r as (λ x. Type 0) [ Ok x ↦ Q x | Err e ↦ S e ]
in_either P Q R S (Ok x) f g h = f x h
in_either P Q R S (Err e) f g h = g e h
