-- Copies of calls.
use Rattle.std.proofs.Common.{◌≡◌, ℕ, ◌+◌, ◌<◌, List, [], ◌∷◌, ◌++◌, length, get_or, take, IfOk, Ok, Err, Result, sym, refl, ap, ◌∙◌, subst, arith}
use Rattle.std.proofs.lemmas.List.{take_more, map-append}
use Rattle.runs.specs.declared.call.Call.{Call}
use Rattle.runs.specs.declared.call.Request.{Request}
use Rattle.runs.specs.Agreements.{SameRequest, both_load, both_open, both_close, both_limit, both_pattern, both_report, both_governing, both_write, both_read, SameCall, SameCalls, no_more, and_then}
use Rattle.compare_engines.specs.declared.entry.Entry.{Entry}
use Rattle.compare_engines.specs.Scripts.{calls_of}

-- two copies of one request are the same
both_request : {q r s : Request} → SameRequest q r → SameRequest q s → SameRequest r s
both_request (both_load d) (both_load e) = both_load (sym d ∙ e)
both_request both_open both_open = both_open
both_request both_close both_close = both_close
both_request both_limit both_limit = both_limit
both_request (both_pattern d) (both_pattern e) = both_pattern (sym d ∙ e)
both_request both_report both_report = both_report
both_request both_governing both_governing = both_governing
both_request (both_write d) (both_write e) = both_write (sym d ∙ e)
both_request (both_read d) (both_read e) = both_read (sym d ∙ e)

pub both_copies : {cs ds es : List Call} → SameCalls cs ds → SameCalls cs es → SameCalls ds es
both_copies no_more no_more = no_more
both_copies (and_then c l) (and_then d m) = and_then (record { request = both_request c.request d.request; places = sym c.places ∙ d.places }) (both_copies l m)

pub copied_long : {cs ds : List Call} → SameCalls cs ds → length ds ≡ length cs
copied_long no_more = refl
copied_long (and_then c l) = let e = copied_long l in omega arith

-- one copy more
pub one_copied : {cs ds : List Call} {c d : Call} → SameCalls cs ds → SameCall c d → SameCalls (cs ++ c ∷ []) (ds ++ d ∷ [])
one_copied no_more s = and_then s no_more
one_copied (and_then t l) s = and_then t (one_copied l s)

pub none_copied : (copies : List Call) → copies ≡ [] → SameCalls [] copies
none_copied copies e = subst (SameCalls []) (sym e) no_more

pub next_copied : (es : List Entry) (i : ℕ) (e : Entry) (copies more_copies : List Call) (d : Call) → i < length es → e ≡ get_or es i e → SameCalls (calls_of (take i es)) copies → SameCall e.call d
    → more_copies ≡ copies ++ d ∷ [] → SameCalls (calls_of (take (i + 1) es)) more_copies
next_copied es i e copies more_copies d l is s t p =
    let more : calls_of (take (i + 1) es) ≡ calls_of (take i es) ++ e.call ∷ [] =
    ap calls_of (take_more es i e l ∙ ap (λ (x : Entry). take i es ++ x ∷ []) (sym is)) ∙ map-append (λ (x : Entry). x.call) (take i es) (e ∷ []) in
    subst (λ (cs : List Call). SameCalls cs more_copies) (sym more) (subst (SameCalls (calls_of (take i es) ++ e.call ∷ [])) (sym p) (one_copied s t))

pub same_at : {q r : Request} (s t : Request) → q ≡ s → r ≡ t → SameRequest s t → SameRequest q r
same_at {q} {r} s t e d h = subst (λ (x : Request). SameRequest x r) (sym e) (subst (SameRequest s) (sym d) h)

-- what was promised of a run that went to its end
pub done : (P : Type 0) {A E : Type 0} (r : Result A E) (x : A) → r ≡ Ok x → IfOk r (λ _. P) → P
done P (Ok y) x e h = h
done P (Err d) x e h = let z : ◌≡◌ {A = ℕ} 0 1 = cc in absurd (omega arith)
