-- Answers that agree.
use Rattle.std.proofs.Common.{◌≡◌, ℕ, ◌+◌, ◌-◌, ◌<◌, ◌≤◌, min, Bool, true, false, eqb, List, length, take, drop, ℤ, vec_items, Decides, Vec, sym, refl, ap, ◌∙◌, subst, inl, inr, arith, w64, SFits, to_z, of_z}
use mathlib.Core.Bool.{beq}
use Rattle.std.proofs.lemmas.List.{drop_all, take_rest}
use Rattle.std.proofs.lemmas.Option.{slice_get_within}
use Rattle.std.proofs.lemmas.Int.{to_z-of_z}
use Rattle.std.proofs.lemmas.Bool.{cases_lt}
use Rattle.std.proofs.lemmas.Bool.Decides.{Decides-eqb, Decides-like}
use Rattle.std.specs.Cmp.{booleans_Decides}
use Rattle.std.specs.declared.alloc.Global.{Global}
use Rattle.std.specs.List.{slice_get}
use Rattle.network.specs.declared.report.Report as report
use Rattle.formats.specs.declared.refusal.Refusal.{Refusal}
use Rattle.runs.specs.declared.answer.Answer.{Answer}
use Rattle.runs.specs.declared.answer.Answer.TheVariants.{Loaded, Changed, Reported, Governs, Sheet, Flow, Refused, SheetRefused, FlowRefused}
use Rattle.runs.specs.Agreements.{Agree, both_loaded, both_changed, both_reported, both_governs, both_sheet, both_flow, both_refused, both_sheet_refused, both_flow_refused}
use Rattle.runs.specs.Statements.{Tells}
use Rattle.compare_engines.specs.Agreements.{AllAgree, AgreeAt, EachAgrees, answered}
use Rattle.compare_engines.specs.declared.four.Four.{Four}

-- at two answers that are known
pub at : (a a' b b' : Answer) (r : Bool) → a ≡ a' → b ≡ b' → Decides r (Agree a' b') → Decides r (Agree a b)
at a a' b b' r p q h = subst (λ (x : Answer). Decides r (Agree x b)) (sym p) (subst (λ (x : Answer). Decides r (Agree a' x)) (sym q) h)

-- by kinds of answers: when two of one kind agree

loaded_back : {m n : ℕ} → Agree (Loaded m) (Loaded n) → m ≡ n
loaded_back both_loaded = refl

pub loaded : (m n : ℕ) → Decides (eqb m n) (Agree (Loaded m) (Loaded n))
loaded m n = Decides-like _ (λ e. subst (λ (x : ℕ). Agree (Loaded m) (Loaded x)) e both_loaded) loaded_back (Decides-eqb m n)

same_words : (d e : ℤ) → SFits w64 d → SFits w64 e → Decides (eqb (of_z w64 d) (of_z w64 e)) (d ≡ e)
same_words d e p q = Decides-like _ (λ h. sym (to_z-of_z w64 d p) ∙ ap (to_z w64) h ∙ to_z-of_z w64 e q) (ap (of_z w64)) (Decides-eqb _ _)

changed_back : {d e : ℤ} {m n : ℕ} → Agree (Changed d m) (Changed e n) → d ≡ e
changed_back both_changed = refl

pub changed : (d e : ℤ) (m n : ℕ) → SFits w64 d → SFits w64 e → Decides (eqb (of_z w64 d) (of_z w64 e)) (Agree (Changed d m) (Changed e n))
changed d e m n p q = Decides-like _ (λ h. subst (λ (x : ℤ). Agree (Changed d m) (Changed x n)) h both_changed) changed_back (same_words d e p q)

reported_back : {r s : report.Report} → Agree (Reported r) (Reported s) → r ≡ s
reported_back both_reported = refl

pub reported : (r s : report.Report) (b : Bool) → Decides b (r ≡ s) → Decides b (Agree (Reported r) (Reported s))
reported r s b = Decides-like b (λ e. subst (λ (x : report.Report). Agree (Reported r) (Reported x)) e both_reported) reported_back

governs_back : {b c : Bool} → Agree (Governs b) (Governs c) → b ≡ c
governs_back both_governs = refl

pub governs : (b c : Bool) → Decides (beq b c) (Agree (Governs b) (Governs c))
governs b c = Decides-like _ (λ e. subst (λ (x : Bool). Agree (Governs b) (Governs x)) e both_governs) governs_back (booleans_Decides b c)

sheet_back : {m n : ℕ} {u v : Vec ℕ Global} → Agree (Sheet m u) (Sheet n v) → vec_items u ≡ vec_items v
sheet_back (both_sheet e) = e

pub sheets : (m n : ℕ) (u v : Vec ℕ Global) (b : Bool) → m ≡ n → Decides b (vec_items u ≡ vec_items v) → Decides b (Agree (Sheet m u) (Sheet n v))
sheets m n u v b e = Decides-like b (λ t. subst (λ (x : ℕ). Agree (Sheet m u) (Sheet x v)) e (both_sheet t)) sheet_back

drop_min : (n : ℕ) (xs : List ℕ) → drop (min n (length xs)) xs ≡ drop n xs
drop_min n xs = elim (cases_lt n (length xs)) [
  | inl l ↦ ap (λ (m : ℕ). drop m xs) (let e : min n (length xs) ≡ n = omega arith in e)
  | inr l ↦ drop_all (min n (length xs)) xs (omega arith) ∙ sym (drop_all n xs l)
]

-- two rows that are as long, equal from the n-th number on, or from their end
pub behind : (b : Bool) (n s : ℕ) (x y : List ℕ) → s ≡ min n (length x) → length x ≡ length y → Decides b (take (length x - s) (drop s x) ≡ take (length y - s) (drop s y)) → Decides b ((length x ≡ length y) × (drop n x ≡ drop n y))
behind b n s x y e l =
    let p : take (length x - s) (drop s x) ≡ drop n x = take_rest x s ∙ ap (λ (m : ℕ). drop m x) e ∙ drop_min n x in
    let q : take (length y - s) (drop s y) ≡ drop n y = take_rest y s ∙ ap (λ (m : ℕ). drop m y) (e ∙ ap (min n) l) ∙ drop_min n y in
    Decides-like b (λ h. (l, sym p ∙ h ∙ q)) (λ h. p ∙ h.1 ∙ sym q)

pub at_rows : (b : Bool) (n : ℕ) (x x' y y' : List ℕ) → x ≡ x' → y ≡ y' → Decides b ((length x ≡ length y) × (drop n x ≡ drop n y)) → Decides b ((length x' ≡ length y') × (drop n x' ≡ drop n y'))
at_rows b n x x' y y' p q h =
    subst (λ (z : List ℕ). Decides b ((length z ≡ length y') × (drop n z ≡ drop n y'))) p (subst (λ (z : List ℕ). Decides b ((length x ≡ length z) × (drop n x ≡ drop n z))) q h)

flow_back : {m n : ℕ} {u v : Vec ℕ Global} → Agree (Flow m u) (Flow n v) → (length (vec_items u) ≡ length (vec_items v)) × (drop m (vec_items u) ≡ drop m (vec_items v))
flow_back (both_flow l d) = (l, d)

pub flows : (m n : ℕ) (u v : Vec ℕ Global) (b : Bool) → m ≡ n → Decides b ((length (vec_items u) ≡ length (vec_items v)) × (drop m (vec_items u) ≡ drop m (vec_items v))) → Decides b (Agree (Flow m u) (Flow n v))
flows m n u v b e = Decides-like b (λ t. subst (λ (x : ℕ). Agree (Flow m u) (Flow x v)) e (both_flow t.0 t.1)) flow_back

refused_back : {e f : Refusal} → Agree (Refused e) (Refused f) → e ≡ f
refused_back both_refused = refl

sheet_refused_back : {e f : Refusal} {u v : Vec ℕ Global} → Agree (SheetRefused e u) (SheetRefused f v) → vec_items u ≡ vec_items v
sheet_refused_back (both_sheet_refused t) = t

pub sheets_refused : (e f : Refusal) (u v : Vec ℕ Global) (b : Bool) → e ≡ f → Decides b (vec_items u ≡ vec_items v) → Decides b (Agree (SheetRefused e u) (SheetRefused f v))
sheets_refused e f u v b p = Decides-like b (λ t. subst (λ (x : Refusal). Agree (SheetRefused e u) (SheetRefused x v)) p (both_sheet_refused t)) sheet_refused_back

sheet_refused_first : {e f : Refusal} {u v : Vec ℕ Global} → Agree (SheetRefused e u) (SheetRefused f v) → e ≡ f
sheet_refused_first (both_sheet_refused t) = refl

pub sheets_differ : (e f : Refusal) (u v : Vec ℕ Global) (b : Bool) → b ≡ false → Decides b (e ≡ f) → Decides b (Agree (SheetRefused e u) (SheetRefused f v))
sheets_differ e f u v b n d = Decides-like b (λ t. let h : b ≡ true = d.1 t in let z : ◌≡◌ {A = ℕ} 0 1 = cc in absurd (omega arith)) sheet_refused_first d

flow_refused_back : {e f : Refusal} {u v : Vec ℕ Global} → Agree (FlowRefused e u) (FlowRefused f v) → vec_items u ≡ vec_items v
flow_refused_back (both_flow_refused t) = t

pub flows_refused : (e f : Refusal) (u v : Vec ℕ Global) (b : Bool) → e ≡ f → Decides b (vec_items u ≡ vec_items v) → Decides b (Agree (FlowRefused e u) (FlowRefused f v))
flows_refused e f u v b p = Decides-like b (λ t. subst (λ (x : Refusal). Agree (FlowRefused e u) (FlowRefused x v)) p (both_flow_refused t)) flow_refused_back

flow_refused_first : {e f : Refusal} {u v : Vec ℕ Global} → Agree (FlowRefused e u) (FlowRefused f v) → e ≡ f
flow_refused_first (both_flow_refused t) = refl

pub flows_differ : (e f : Refusal) (u v : Vec ℕ Global) (b : Bool) → b ≡ false → Decides b (e ≡ f) → Decides b (Agree (FlowRefused e u) (FlowRefused f v))
flows_differ e f u v b n d = Decides-like b (λ t. let h : b ≡ true = d.1 t in let z : ◌≡◌ {A = ℕ} 0 1 = cc in absurd (omega arith)) flow_refused_first d

pub refused : (e f : Refusal) (b : Bool) → Decides b (e ≡ f) → Decides b (Agree (Refused e) (Refused f))
refused e f b = Decides-like b (λ t. subst (λ (x : Refusal). Agree (Refused e) (Refused x)) t both_refused) refused_back

only_one : (told : List Answer) (i k : ℕ) (a x : Answer) → i ≡ k → Tells told i a → Tells told k x → x ≡ a
only_one told i k a x e p q = let s : slice_get told i ≡ slice_get told k = ap (slice_get told) e in cc

-- the calls up to the next, where all agree on that one too
pub agree_next : (ws xs ys zs : List Answer) (k : ℕ) (w x y z : Answer) → Tells ws k w → Tells xs k x → Tells ys k y → Tells zs k z → AllAgree w x y z → ((i : ℕ) → i < k → AgreeAt ws xs ys zs i)
    → (i : ℕ) → i < k + 1 → AgreeAt ws xs ys zs i
agree_next ws xs ys zs k w x y z tw tx ty tz all before i l a b c d p q r s = elim (cases_lt i k) [
  | inl t ↦ before i t a b c d p q r s
  | inr t ↦
      let e : i ≡ k = omega (arith, l, t) in
      let f = only_one ws i k a w e p tw in
      (subst (λ (v : Answer). Agree v b) f (subst (Agree w) (only_one xs i k b x e q tx) all.0), subst (λ (v : Answer). Agree v c) f (subst (Agree w) (only_one ys i k c y e r ty) all.1), subst (λ (v : Answer). Agree v d) f (subst (Agree w) (only_one zs i k d z e s tz) all.2))
]

-- all calls that four engines answered
pub agree_all : (f : Four) (n : ℕ) → answered f ≤ n
    → ((i : ℕ) → i < n → AgreeAt (vec_items f.warm_fewest) (vec_items f.warm_widest) (vec_items f.cold_fewest) (vec_items f.cold_widest) i) → EachAgrees f
agree_all f n e before i a b c d p q r s =
    before i (omega (arith, e, slice_get_within (vec_items f.warm_fewest) i a p, slice_get_within (vec_items f.warm_widest) i b q, slice_get_within (vec_items f.cold_fewest) i c r, slice_get_within (vec_items f.cold_widest) i d s, f.warm_fewest.ok.0, f.warm_widest.ok.0, f.cold_fewest.ok.0, f.cold_widest.ok.0)) a b c d p q r s
