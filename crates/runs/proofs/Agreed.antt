-- Two engines that are asked the same agree.
use Rattle.std.proofs.Common.{◌≡◌, ℕ, zero, suc, ◌≤◌, min, Bool, ltb, List, length, take, ℤ, Some, Ok, Err, vec_items, Result, Vec, sym, refl, ap, ◌∙◌, subst, arith}
use Rattle.std.proofs.lemmas.Bool.{ltb-false}
use Rattle.std.specs.declared.alloc.Global.{Global}
use Rattle.std.specs.List.{slice_get}
use Rattle.network.specs.declared.report.Report as report
use Rattle.network.specs.Flows.{Greatest}
use Rattle.network.specs.Network.{Network, bare}
use Rattle.network.specs.Residual.{size}
use Rattle.formats.specs.declared.refusal.Refusal.{Refusal}
use Rattle.formats.specs.declared.refusal.Refusal.TheVariants.{LittleSpace}
use Rattle.formats.specs.Spaces.{put_at}
use Rattle.formats.specs.Written.{sheet_of}
use Rattle.interface.specs.Verdicts.{loading, patterning, writing, reading, change}
use Rattle.interface.specs.Works.{Manner}
use Rattle.runs.specs.declared.answer.Answer.{Answer}
use Rattle.runs.specs.declared.answer.Answer.TheVariants.{Loaded, Changed, Reported, Governs, Sheet, Flow, Refused, SheetRefused, FlowRefused}
use Rattle.runs.specs.declared.call.Request.{Request}
use Rattle.runs.specs.declared.call.Call.{Call}
use Rattle.runs.specs.Agreements.{SameRequest, both_load, both_open, both_close, both_limit, both_pattern, both_report, both_governing, both_write, both_read, SameCall, SameCalls, no_more, and_then, Agree, both_loaded, both_changed, both_reported, both_governs, both_sheet, both_flow, both_refused, both_sheet_refused, both_flow_refused, AnswersAgree}
use Rattle.runs.specs.Networks.{accepted, accepted_sheet, next_network, network_after, network_at}
use Rattle.runs.specs.Runs.{Answers, loads, not_loads, opens, not_opens, closes, not_closes, limits, not_limits, patterns, not_patterns, reports, not_reports, governs, not_governs, writes, not_writes, reads, not_reads}
use Rattle.runs.specs.Statements.{Faithful}
use Rattle.runs.proofs.Fronts.{front_dropped, front_long}
use Rattle.runs.proofs.Told.{not_refused, step}

-- two verdicts that are the same
module _ {A : Type 0} {x y : Result A Refusal} (same : x ≡ y) where
  ok_both : {a b : A} → x ≡ Ok a → y ≡ Ok b → a ≡ b
  ok_both p q = cc

  err_both : {d e : Refusal} → x ≡ Err d → y ≡ Err e → d ≡ e
  err_both p q = cc

  ok_err : {C : Type 0} {a : A} {e : Refusal} → x ≡ Ok a → y ≡ Err e → C
  ok_err p q = let z : ◌≡◌ {A = ℕ} 0 1 = cc in absurd (omega arith)

  err_ok : {C : Type 0} {a : A} {e : Refusal} → x ≡ Err e → y ≡ Ok a → C
  err_ok p q = let z : ◌≡◌ {A = ℕ} 0 1 = cc in absurd (omega arith)

refusals : {d e : Refusal} → d ≡ e → Agree (Refused d) (Refused e)
refusals {d} p = subst (λ (x : Refusal). Agree (Refused d) (Refused x)) p both_refused

sheet_refusals : {d e : Refusal} {u v : Vec ℕ Global} → d ≡ e → vec_items u ≡ vec_items v → Agree (SheetRefused d u) (SheetRefused e v)
sheet_refusals {d} {e} {u} {v} p q = subst (λ (x : Refusal). Agree (SheetRefused d u) (SheetRefused x v)) p (both_sheet_refused q)

flow_refusals : {d e : Refusal} {u v : Vec ℕ Global} → d ≡ e → vec_items u ≡ vec_items v → Agree (FlowRefused d u) (FlowRefused e v)
flow_refusals {d} {e} {u} {v} p q = subst (λ (x : Refusal). Agree (FlowRefused d u) (FlowRefused x v)) p (both_flow_refused q)

loadings : {m n : ℕ} → m ≡ n → Agree (Loaded m) (Loaded n)
loadings {m} p = subst (λ (x : ℕ). Agree (Loaded m) (Loaded x)) p both_loaded

changings : {d e : ℤ} {m n : ℕ} (w u v : Network) → d ≡ change w u → e ≡ change w v → u ≡ v → Agree (Changed d m) (Changed e n)
changings {d} {m} {n} w u v p q same = subst (λ (x : ℤ). Agree (Changed d m) (Changed x n)) (p ∙ ap (change w) same ∙ sym q) both_changed

reportings : {r s : report.Report} → r ≡ s → Agree (Reported r) (Reported s)
reportings {r} p = subst (λ (x : report.Report). Agree (Reported r) (Reported x)) p both_reported

governings : {b c : Bool} → b ≡ c → Agree (Governs b) (Governs c)
governings {b} p = subst (λ (x : Bool). Agree (Governs b) (Governs x)) p both_governs

writings : {m n : ℕ} {u v : Vec ℕ Global} → m ≡ n → vec_items u ≡ vec_items v → Agree (Sheet m u) (Sheet n v)
writings {m} {u} {v} p q = subst (λ (x : ℕ). Agree (Sheet m u) (Sheet x v)) p (both_sheet q)

read_fits : (w : Network) (n m : ℕ) → reading n w ≡ Ok m → (m ≤ n) × (m ≡ size w)
read_fits w n m e = let r = not_refused (ltb n (size w)) LittleSpace (size w) m e in (let l = ltb-false n (size w) r.0 in omega (arith, r.1, l), sym r.1)

-- two flows of one network, over rows that were equal
readings : (w : Network) {m n : ℕ} {u v : Vec ℕ Global} (f g row : List ℕ) → Greatest w f → Greatest w g → reading (length row) w ≡ Ok m → reading (length row) w ≡ Ok n
    → vec_items u ≡ put_at 0 f row → vec_items v ≡ put_at 0 g row → Agree (Flow m u) (Flow n v)
readings w {m} {n} {u} {v} f g row h k p q d e =
    let r = read_fits w (length row) m p in
    let one : m ≡ length f = r.1 ∙ sym h.flow.within.each in
    let other : m ≡ length g = r.1 ∙ sym k.flow.within.each in
    let lengths = front_long f row (vec_items u) d m one r.0 ∙ sym (front_long g row (vec_items v) e m other r.0) in
    let numbers = front_dropped f row (vec_items u) d m one ∙ sym (front_dropped g row (vec_items v) e m other) in
    subst (λ (x : ℕ). Agree (Flow m u) (Flow x v)) (let same : m ≡ n = cc in same) (both_flow lengths numbers)

-- the same requests leave the same networks
next_same : (most p : ℕ) (w : Network) {q s : Request} → SameRequest q s → next_network most p w q ≡ next_network most p w s
next_same most p w (both_load e) = ap (λ (t : List ℕ). accepted_sheet w (loading most p t)) e
next_same most p w both_open = refl
next_same most p w both_close = refl
next_same most p w both_limit = refl
next_same most p w (both_pattern e) = ap (λ (t : List ℕ). accepted w (patterning most p w t)) e
next_same most p w both_report = refl
next_same most p w both_governing = refl
next_same most p w (both_write e) = refl
next_same most p w (both_read e) = refl

after_same : (most room : ℕ) {cs ds : List Call} → SameCalls cs ds → (i : ℕ) (w v : Network) → w ≡ v → network_after most room w (take i cs) ≡ network_after most room v (take i ds)
after_same most room no_more zero w v e = e
after_same most room no_more (suc i) w v e = e
after_same most room (and_then s l) zero w v e = e
after_same most room (and_then {c} {d} s l) (suc i) w v e = after_same most room l i (next_network most (min c.places room) w c.request) (next_network most (min d.places room) v d.request)
    (next_same most (min c.places room) w s.request ∙ ap (λ (n : ℕ). next_network most (min n room) w d.request) s.places ∙ ap (λ (x : Network). next_network most (min d.places room) x d.request) e)

nth_same : {cs ds : List Call} → SameCalls cs ds → (i : ℕ) (c d : Call) → slice_get cs i ≡ Some c → slice_get ds i ≡ Some d → SameCall c d
nth_same no_more i c d p q = let z : ◌≡◌ {A = ℕ} 0 1 = cc in absurd (omega arith)
nth_same (and_then {c} {d} s l) zero x y p q = subst (λ (z : Call). SameCall z y) (let e : c ≡ x = cc in e) (subst (λ (z : Call). SameCall c z) (let e : d ≡ y = cc in e) s)
nth_same (and_then s l) (suc i) c d p q = nth_same l i c d p q

at_same : (most room : ℕ) {cs ds : List Call} → SameCalls cs ds → (i : ℕ) → network_at most room cs i ≡ network_at most room ds i
unfolding network_at
at_same most room same i = after_same most room same i bare bare refl

module _ {Λ Λ' : Type 0} {most : ℕ} {manner manner' : Manner} {good : Λ → Λ → Type 0} {start : Λ} {extended : Λ → ℕ → Λ} {good' : Λ' → Λ' → Type 0} {start' : Λ'} {extended' : Λ' → ℕ → Λ'} where
  agree : {p : ℕ} {w u v : Network} {f g f' g' : List ℕ} {q s : Request} {a b : Answer} → Greatest w f → Greatest w f' → SameRequest q s
      → Answers most manner good start extended p w f q a u g → Answers most manner' good' start' extended' p w f' s b v g' → Agree a b
  agree {p} {w} h h' (both_load t) (loads m x k b) (loads m' y k' b') = loadings (ap (λ (z : Network × ℕ). z.1) (ok_both (ap (loading most p) t) x y))
  agree {p} {w} h h' (both_load t) (loads m x k b) (not_loads y) = ok_err (ap (loading most p) t) x y
  agree {p} {w} h h' (both_load t) (not_loads x) (loads m' y k' b') = err_ok (ap (loading most p) t) x y
  agree {p} {w} h h' (both_load t) (not_loads x) (not_loads y) = refusals (err_both (ap (loading most p) t) x y)
  agree {p} {w} h h' both_open (opens x d k b) (opens y e k' b') = changings w _ _ d e (ok_both refl x y)
  agree {p} {w} h h' both_open (opens x d k b) (not_opens y) = ok_err refl x y
  agree {p} {w} h h' both_open (not_opens x) (opens y e k' b') = err_ok refl x y
  agree {p} {w} h h' both_open (not_opens x) (not_opens y) = refusals (err_both refl x y)
  agree {p} {w} h h' both_close (closes x d k b) (closes y e k' b') = changings w _ _ d e (ok_both refl x y)
  agree {p} {w} h h' both_close (closes x d k b) (not_closes y) = ok_err refl x y
  agree {p} {w} h h' both_close (not_closes x) (closes y e k' b') = err_ok refl x y
  agree {p} {w} h h' both_close (not_closes x) (not_closes y) = refusals (err_both refl x y)
  agree {p} {w} h h' both_limit (limits x d k b) (limits y e k' b') = changings w _ _ d e (ok_both refl x y)
  agree {p} {w} h h' both_limit (limits x d k b) (not_limits y) = ok_err refl x y
  agree {p} {w} h h' both_limit (not_limits x) (limits y e k' b') = err_ok refl x y
  agree {p} {w} h h' both_limit (not_limits x) (not_limits y) = refusals (err_both refl x y)
  agree {p} {w} h h' (both_pattern t) (patterns x d k b) (patterns y e k' b') = changings w _ _ d e (ok_both (ap (patterning most p w) t) x y)
  agree {p} {w} h h' (both_pattern t) (patterns x d k b) (not_patterns y) = ok_err (ap (patterning most p w) t) x y
  agree {p} {w} h h' (both_pattern t) (not_patterns x) (patterns y e k' b') = err_ok (ap (patterning most p w) t) x y
  agree {p} {w} h h' (both_pattern t) (not_patterns x) (not_patterns y) = refusals (err_both (ap (patterning most p w) t) x y)
  agree {p} {w} h h' both_report (reports x) (reports y) = reportings (ok_both refl x y)
  agree {p} {w} h h' both_report (reports x) (not_reports y) = ok_err refl x y
  agree {p} {w} h h' both_report (not_reports x) (reports y) = err_ok refl x y
  agree {p} {w} h h' both_report (not_reports x) (not_reports y) = refusals (err_both refl x y)
  agree {p} {w} h h' both_governing (governs x) (governs y) = governings (ok_both refl x y)
  agree {p} {w} h h' both_governing (governs x) (not_governs y) = ok_err refl x y
  agree {p} {w} h h' both_governing (not_governs x) (governs y) = err_ok refl x y
  agree {p} {w} h h' both_governing (not_governs x) (not_governs y) = refusals (err_both refl x y)
  agree {p} {w} h h' (both_write t) (writes x d) (writes y e) = writings (ok_both (ap (λ (z : List ℕ). writing (length z) w) t) x y) (d ∙ ap (put_at 0 (sheet_of w)) t ∙ sym e)
  agree {p} {w} h h' (both_write t) (writes x d) (not_writes y e) = ok_err (ap (λ (z : List ℕ). writing (length z) w) t) x y
  agree {p} {w} h h' (both_write t) (not_writes x d) (writes y e) = err_ok (ap (λ (z : List ℕ). writing (length z) w) t) x y
  agree {p} {w} h h' (both_write t) (not_writes x d) (not_writes y e) = sheet_refusals (err_both (ap (λ (z : List ℕ). writing (length z) w) t) x y) (d ∙ t ∙ sym e)
  agree {p} {w} {f} {f'} h h' (both_read {s} t) (reads x d) (reads y e) =
      readings w f f' (vec_items s) h h' x (ap (λ (z : List ℕ). reading (length z) w) t ∙ y) d (e ∙ ap (put_at 0 f') (sym t))
  agree {p} {w} h h' (both_read t) (reads x d) (not_reads y e) = ok_err (ap (λ (z : List ℕ). reading (length z) w) t) x y
  agree {p} {w} h h' (both_read t) (not_reads x d) (reads y e) = err_ok (ap (λ (z : List ℕ). reading (length z) w) t) x y
  agree {p} {w} h h' (both_read t) (not_reads x d) (not_reads y e) = flow_refusals (err_both (ap (λ (z : List ℕ). reading (length z) w) t) x y) (d ∙ t ∙ sym e)

pub answers_agree : {Λ Λ' : Type 0} (most : ℕ) (manner : Manner) (good : Λ → Λ → Type 0) (start : Λ) (extended : Λ → ℕ → Λ) (room : ℕ) (cs : List Call) (told : List Answer)
    (most' : ℕ) (manner' : Manner) (good' : Λ' → Λ' → Type 0) (start' : Λ') (extended' : Λ' → ℕ → Λ') (room' : ℕ) (ds : List Call) (told' : List Answer)
    → (2 ≤ most) × (most ≤ 64) → Faithful most manner good start extended room cs told → Faithful most' manner' good' start' extended' room' ds told'
    → most ≡ most' → room ≡ room' → SameCalls cs ds → AnswersAgree told told'
answers_agree most manner good start extended room cs told most' manner' good' start' extended' room' ds told' sized one other e h same i a b p q =
    let other'' : Faithful most manner' good' start' extended' room ds told' =
    subst (λ (x : ℕ). Faithful most manner' good' start' extended' x ds told') (sym h) (subst (λ (x : ℕ). Faithful x manner' good' start' extended' room' ds told') (sym e) other) in
    let s = step most manner good start extended room sized.0 sized.1 cs told one.begun i a p in
    let t = step most manner' good' start' extended' room sized.0 sized.1 ds told' other''.begun i b q in
    let c = nth_same same i s.call t.call s.called t.called in
    let here : network_at most room ds i ≡ network_at most room cs i = sym (at_same most room same i) in
    let next = network_at most room ds (suc i) in
    agree s.greatest (subst (λ (x : Network). Greatest x t.before) here t.greatest) c.request s.answers
    (subst (λ (x : ℕ). Answers most manner' good' start' extended' (min x room) (network_at most room cs i) t.before t.call.request b next t.after) (sym c.places)
    (subst (λ (x : Network). Answers most manner' good' start' extended' (min t.call.places room) x t.before t.call.request b next t.after) here t.answers))
