-- What the reader and the tests make of the verdict.
use Rattle.std.proofs.Common.{◌≡◌, ℕ, ◌-◌, ◌<◌, ◌≤◌, Bool, true, false, cond, ltb, List, length, is_ok, Ok, Err, Result, sym, refl, ap, ◌∙◌, subst, arith}
use Rattle.std.proofs.lemmas.Bool.{lt-ltb, le-ltb}
use Rattle.network.specs.Network.{Network}
use Rattle.network.specs.Residual.{size}
use Rattle.formats.specs.declared.refusal.Refusal.{Refusal}
use Rattle.formats.specs.declared.refusal.Refusal.TheVariants.{FewPlaces, LittleSpace}
use Rattle.formats.specs.Schedules.{Timed}
use Rattle.formats.specs.Pages.{total_line}
use Rattle.formats.specs.Spaces.{put_at}
use Rattle.formats.specs.Sheets.{and_then, sheet_in}
use Rattle.texts.specs.declared.extent.Extent.{Extent}
use Rattle.texts.specs.Laws.{TextRead, Read}
use Rattle.texts.specs.Texts.{text_in}
use Rattle.texts.proofs.Reading.{sheet_of_text}
use Rattle.interface.specs.Verdicts.{loading}
use Rattle.rating.specs.Pages.{all_lines, litres, last_network, page_of, page_length_of}
use Rattle.rating.specs.Ratings.{in_space, rating}
use Rattle.rating.proofs.Lengths.{page_of_length}
use Rattle.rating.proofs.Stepping.{Rated, page_done}
use Rattle.rating.proofs.Unrefused.{one_answer, placed}

-- what cannot be refused is accepted
pub accepted : {X : Type 0} (P : X → Type 0) (Q : Refusal → Type 0) (r : Result X Refusal) → elim r as (λ x. Type 0) [ Ok n ↦ P n | Err e ↦ Q e ] → ((e : Refusal) → Q e → ⊥) → is_ok r ≡ true
accepted P Q (Ok n) h none = refl
accepted P Q (Err e) h none = absurd (none e h)

never : (v : Result (Network × ℕ) Refusal) (w : Network) (n : ℕ) (e : Refusal) → v ≡ Ok (w, n) → v ≡ Err e → ⊥
never v w n e p q = let z : ◌≡◌ {A = ℕ} 0 1 = cc in omega arith

module _ (most places : ℕ) (text : List ℕ) (space : ℕ) where
  pub few_places : places < most → rating most places text space ≡ Err FewPlaces
  unfolding rating
  few_places h = ap (λ (b : Bool). cond {A = Result (Network × List Timed) Refusal} b (Err FewPlaces) (and_then (text_in most text) (in_space space))) (lt-ltb places most h)

  module _ (enough : most ≤ places) where
    by_text : rating most places text space ≡ and_then (text_in most text) (in_space space)
    unfolding rating
    by_text = placed most places (and_then (text_in most text) (in_space space)) enough

    -- m is the engine's constant, as the code read it
    pub text_missed : (m : ℕ) (e : Refusal) → m ≡ most → text_in m text ≡ Err e → rating most places text space ≡ Err e
    text_missed m e same p = by_text ∙ ap (λ (r : Result (Network × List Timed) Refusal). and_then r (in_space space)) (ap (λ (n : ℕ). text_in n text) (sym same) ∙ p)

    module _ (m : ℕ) (ss : List Timed) (x : Extent) (same : m ≡ most) (read : Read m text ss x) where
      pub got : Read most text ss x
      got = subst (λ (n : ℕ). Read n text ss x) same read

      by_space : (b : Bool) → ltb space (page_length_of x.steps x.junctions x.pipes) ≡ b → rating most places text space ≡ cond b (Err LittleSpace) (Ok (got.network, ss))
      unfolding in_space
      by_space b e =
          by_text
          ∙ ap (λ (r : Result (Network × List Timed) Refusal). and_then r (in_space space)) got.verdict
          ∙ (λ i. cond {A = Result (Network × List Timed) Refusal} (ltb space (page_length_of (sym got.long i) (sym got.joined i) (sym got.sized i))) (Err LittleSpace) (Ok (got.network, ss)))
          ∙ ap (λ (b : Bool). cond {A = Result (Network × List Timed) Refusal} b (Err LittleSpace) (Ok (got.network, ss))) e

      pub little_space : space < page_length_of x.steps x.junctions x.pipes → rating most places text space ≡ Err LittleSpace
      little_space h = by_space true (lt-ltb space (page_length_of x.steps x.junctions x.pipes) h)

      pub fitting : page_length_of x.steps x.junctions x.pipes ≤ space → rating most places text space ≡ Ok (got.network, ss)
      fitting h = by_space false (le-ltb space (page_length_of x.steps x.junctions x.pipes) h)

      after : List ℕ
      after = (sheet_of_text most text got.network ss got.verdict).0

      loading_is : loading most places text ≡ Ok (got.network, length text - length after)
      unfolding after
      loading_is =
          placed most places (and_then (sheet_in most 1 text) (λ r. Ok (r.0, length text - length r.1))) enough
          ∙ ap (λ (r : Result (Network × List ℕ) Refusal). and_then {B = Network × ℕ} r (λ r. Ok (r.0, length text - length r.1))) (sheet_of_text most text got.network ss got.verdict).1

      -- what is loaded is the network that was read
      pub loaded : (u : Network) (n : ℕ) → loading most places text ≡ Ok (u, n) → u ≡ got.network
      loaded u n e = ap (λ (x : Network × ℕ). x.0) (one_answer (loading most places text) (u, n) (got.network, length text - length after) e loading_is)

      pub never_refused : (e : Refusal) → loading most places text ≡ Err e → ⊥
      never_refused e = never (loading most places text) got.network (length text - length after) e loading_is

      pub loaded_size : (u : Network) (n : ℕ) → loading most places text ≡ Ok (u, n) → (x.junctions ≡ u.junctions) × (x.pipes ≡ size u)
      loaded_size u n e = let is = loaded u n e in (got.joined ∙ sym (ap (λ (v : Network). v.junctions) is), got.sized ∙ sym (ap size is))

      -- the page is the one that the definitions give
      pub page_is : (u v : Network) (n : ℕ) (page lines final : List ℕ) (total long : ℕ) → loading most places text ≡ Ok (u, n) → v ≡ last_network u ss → lines ≡ put_at 0 (all_lines 1 u ss) page → total ≡ litres u ss
          → long ≡ page_length_of x.steps x.junctions x.pipes → final ≡ put_at (long - 19) (total_line total) lines → page_length_of x.steps x.junctions x.pipes ≤ space
          → (w : Network) × (ts : List Timed) × (rating most places text space ≡ Ok (w, ts)) × (long ≡ length (page_of w ts)) × (long ≡ page_length_of (length ts) w.junctions (size w)) × (final ≡ put_at 0 (page_of w ts) page)
          × (v ≡ last_network w ts) × TextRead most text w ts
      page_is u v n page lines final total long load means written litres_are e put fits =
          let w = got.network in
          let is = loaded u n load in
          let length_is : long ≡ page_length_of (length ss) got.network.junctions (size got.network) = e ∙ (λ i. page_length_of (got.long i) (got.joined i) (got.sized i)) in
          let rated : Rated got.network page ss v lines total = record { means = means ∙ ap (λ (x : Network). last_network x ss) is; written = written ∙ ap (λ (x : Network). put_at 0 (all_lines 1 x ss) page) is; litres_are = litres_are ∙ ap (λ (x : Network). litres x ss) is } in
          (w, ss, fitting fits, length_is ∙ sym (page_of_length w ss), length_is, page_done w page ss v lines final total (long - 19) rated (omega (arith, length_is)) put, rated.means, got.whole)
