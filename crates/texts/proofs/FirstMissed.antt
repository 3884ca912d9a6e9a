-- A refusal is that of the first condition missed.
use Rattle.std.proofs.Common.{◌≡◌, ℕ, zero, suc, ◌+◌, ◌-◌, Bool, true, false, cond, not, ◌&&◌, eqb, leb, ◌↔◌, List, [], ◌∷◌, ◌++◌, length, get_or, drop, is_some, Some, None, Ok, Err, codes, Option, Result, sym, refl, ap, ◌∙◌, arith}
use Rattle.network.specs.declared.valve.Valve.{Valve}
use Rattle.network.specs.Network.{Pipe, Network}
use Rattle.formats.specs.declared.refusal.Refusal.{Refusal}
use Rattle.formats.specs.declared.refusal.Refusal.TheVariants.{BadLine, WrongKind, BadNumber, OutOfRange, WrongLetter, SameEnds, TrailingBytes}
use Rattle.formats.specs.declared.header.Header.{Header}
use Rattle.texts.specs.Conditions.{Condition, first_missed, missed, field, number_or, line_conditions, number_conditions, ends_conditions, valve_conditions, header_conditions, pipe_conditions, pipes_conditions, sheet_conditions, step_conditions, steps_conditions, schedule_conditions}
use Rattle.formats.specs.Letters.{valve_of, is_pattern}
use Rattle.formats.specs.Lines.{ended, first_line, after_line}
use Rattle.formats.specs.Sheets.{and_then, of_kind, due, ranged, number_at, header, header_in, blank, valve_or_refusal, valve_at, pipe_in, next_pipe_in, pipes_in, sheet_in}
use Rattle.formats.specs.Schedules.{Timed, step_in, next_step_in, steps_in, schedule_in}
use Rattle.texts.proofs.LineTexts.{tests, and_split, ranged_read}
use Rattle.texts.proofs.SheetTexts.{ends_read}

abbrev or_else : Option Refusal → Option Refusal → Option Refusal
or_else None y = y
or_else (Some e) y = Some e

or_more : (b : Bool) (e : Refusal) (w x y : Option Refusal) → w ≡ or_else x y → cond b w (Some e) ≡ or_else (cond b x (Some e)) y
or_more true e w x y h = h
or_more false e w x y h = refl

first_or : (cs ds : List Condition) → first_missed (cs ++ ds) ≡ or_else (first_missed cs) (first_missed ds)
unfolding first_missed
first_or [] ds = refl
first_or (c ∷ cs) ds = or_more c.met c.refusal (first_missed (cs ++ ds)) (first_missed cs) (first_missed ds) (first_or cs ds)

-- one reading after another
pub chain : {A B : Type 0} (r : Result A Refusal) (f : A → Result B Refusal) (cs ds : List Condition) → missed r ≡ first_missed cs → ((x : A) → r ≡ Ok x → missed (f x) ≡ first_missed ds) → missed (and_then r f) ≡ first_missed (cs ++ ds)
chain (Ok x) f cs ds h k = k x refl ∙ ap (λ (o : Option Refusal). or_else o (first_missed ds)) h ∙ sym (first_or cs ds)
chain (Err e) f cs ds h k = ap (λ (o : Option Refusal). or_else o (first_missed ds)) h ∙ sym (first_or cs ds)

regroup : {A B C : Type 0} (r : Result A Refusal) (f : A → Result B Refusal) (g : B → Result C Refusal) → and_then (and_then r f) g ≡ and_then r (λ x. and_then (f x) g)
regroup (Ok x) f g = refl
regroup (Err e) f g = refl

pub kept : {A B : Type 0} (r : Result A Refusal) (g : A → B) → missed (and_then r (λ x. Ok (g x))) ≡ missed r
kept (Ok x) g = refl
kept (Err e) g = refl

two_tests : {A B : Type 0} (x y : Bool) (a : A) (d e : Refusal) (f : A → Result B Refusal) (o : Option Refusal) → missed (f a) ≡ o
    → missed (and_then (cond {A = Result A Refusal} x (cond y (Ok a) (Err e)) (Err d)) f) ≡ cond x (cond y o (Some e)) (Some d)
two_tests true true a d e f o h = h
two_tests true false a d e f o h = refl
two_tests false y a d e f o h = refl

one_test : {A B : Type 0} (x : Bool) (a : A) (e : Refusal) (f : A → Result B Refusal) (o : Option Refusal) → missed (f a) ≡ o → missed (and_then (cond {A = Result A Refusal} x (Ok a) (Err e)) f) ≡ cond x o (Some e)
one_test true a e f o h = h
one_test false a e f o h = refl

due_chain : {B : Type 0} (kind : List ℕ) (columns i : ℕ) (bs : List ℕ) (f : List ℕ → Result B Refusal) (ds : List Condition) → missed (f (first_line bs)) ≡ first_missed ds
    → missed (and_then (due kind columns i bs) f) ≡ first_missed (line_conditions kind columns i bs ++ ds)
unfolding first_missed
due_chain kind columns i bs f ds h = two_tests (ended bs && eqb (length (first_line bs)) columns) (of_kind kind (first_line bs)) (first_line bs) (BadLine i) (WrongKind i) f (first_missed ds) h

number_chain : {B : Type 0} (i least most : ℕ) (o : Option ℕ) (f : ℕ → Result B Refusal) (ds : List Condition) → missed (f (number_or o)) ≡ first_missed ds
    → missed (and_then (ranged i least most o) f) ≡ first_missed (number_conditions i least most o ++ ds)
unfolding first_missed
number_chain i least most None f ds h = refl
number_chain i least most (Some n) f ds h = one_test (leb least n && leb n most) n (OutOfRange i) f (first_missed ds) h

ends_missed : {A : Type 0} (i a b : ℕ) (x : A) → missed (cond {A = Result A Refusal} (eqb a b) (Err (SameEnds i)) (Ok x)) ≡ first_missed (ends_conditions i a b)
unfolding first_missed
ends_missed {A} i a b x = go (eqb a b)
  where
    go : (t : Bool) → missed (cond {A = Result A Refusal} t (Err (SameEnds i)) (Ok x)) ≡ cond (not t) None (Some (SameEnds i))
    go true = refl
    go false = refl

valve_missed : (i : ℕ) (l : List ℕ) → missed (valve_at i l) ≡ first_missed (valve_conditions i l)
unfolding first_missed
valve_missed i l = go (blank l) (valve_of (get_or l 23 0))
  where
    go : (t : Bool) (o : Option Valve) → missed (cond t (valve_or_refusal i o) (Err (BadNumber i))) ≡ cond t (cond (is_some o) None (Some (WrongLetter i))) (Some (BadNumber i))
    go true (Some v) = refl
    go true None = refl
    go false o = refl

header_missed : (most i : ℕ) (l : List ℕ) → missed (header most i l) ≡ first_missed (header_conditions most i l)
header_missed most i l =
    let a = number_or (field 0 l) in
    let b = number_or (field 2 l) in
    let c = number_or (field 3 l) in
    number_chain i 2 most (field 0 l) _ _ (number_chain i 0 512 (field 1 l) _ _ (number_chain i 0 (a - 1) (field 2 l) _ _ (number_chain i 0 (a - 1) (field 3 l) _ _ (ends_missed i b c _))))

pipe_missed : (n i : ℕ) (l : List ℕ) → missed (pipe_in n i l) ≡ first_missed (pipe_conditions n i l)
pipe_missed n i l =
    let a = number_or (field 0 l) in
    let b = number_or (field 1 l) in
    number_chain i 0 (n - 1) (field 0 l) _ _ (number_chain i 0 (n - 1) (field 1 l) _ _ (number_chain i 1 60000 (field 2 l) _ _ (chain (valve_at i l) _ (valve_conditions i l) _ (valve_missed i l) (λ v e. ends_missed i a b _))))

next_pipe_missed : (n i : ℕ) (bs : List ℕ) → missed (next_pipe_in n i bs) ≡ first_missed (line_conditions (codes "PIPE") 24 i bs ++ pipe_conditions n i (first_line bs))
next_pipe_missed n i bs = due_chain (codes "PIPE") 24 i bs (pipe_in n i) (pipe_conditions n i (first_line bs)) (pipe_missed n i (first_line bs))

pipes_missed : (k n i : ℕ) (bs : List ℕ) (ps : List Pipe) → missed (pipes_in k n i bs ps) ≡ first_missed (pipes_conditions k n i bs)
unfolding first_missed
pipes_missed zero n i bs ps = refl
pipes_missed (suc k) n i bs ps =
    chain (next_pipe_in n i bs) _ (line_conditions (codes "PIPE") 24 i bs ++ pipe_conditions n i (first_line bs)) (pipes_conditions k n (i + 1) (after_line bs)) (next_pipe_missed n i bs)
    (λ p e. pipes_missed k n (i + 1) (after_line bs) (ps ++ p ∷ []))

is_number : (i least most : ℕ) (o : Option ℕ) (v : ℕ) → ranged i least most o ≡ Ok v → number_or o ≡ v
is_number i least most o v e = ap number_or (ranged_read i least most o v e).0

-- the numbers of the first line that tell how to go on
header_numbers : (most i : ℕ) (l : List ℕ) (h : Header) → header most i l ≡ Ok h → (number_or (field 0 l) ≡ h.junctions) × (number_or (field 1 l) ≡ h.pipes)
header_numbers most i l h e =
    let s₁ = and_split (number_at i 0 2 most l) _ h e in
    let j = s₁.0 in
    let s₂ = and_split (number_at i 1 0 512 l) _ h s₁.1.1 in
    let s₃ = and_split (number_at i 2 0 (j - 1) l) _ h s₂.1.1 in
    let s₄ = and_split (number_at i 3 0 (j - 1) l) _ h s₃.1.1 in
    let r = (ends_read s₃.0 s₄.0 i (record { junctions = j; pipes = s₂.0; pump = s₃.0; outlet = s₄.0 }) h s₄.1.1).1 in
    (is_number i 2 most (field 0 l) j s₁.1.0 ∙ ap (λ (x : Header). x.junctions) r, is_number i 0 512 (field 1 l) s₂.0 s₂.1.0 ∙ ap (λ (x : Header). x.pipes) r)

pub header_in_numbers : (most i : ℕ) (bs : List ℕ) (h : Header) → header_in most i bs ≡ Ok h → (number_or (field 0 (first_line bs)) ≡ h.junctions) × (number_or (field 1 (first_line bs)) ≡ h.pipes)
header_in_numbers most i bs h e =
    let t = and_split (due (codes "NETW") 24 i bs) (header most i) h e in
    let l = t.0 in
    let f : first_line bs ≡ l = (tests (ended bs) (eqb (length (first_line bs)) 24) (of_kind (codes "NETW") (first_line bs)) i (first_line bs) l t.1.0).3 in
    header_numbers most i (first_line bs) h (ap (header most i) f ∙ t.1.1)

pub sheet_missed : (most i : ℕ) (bs : List ℕ) → missed (sheet_in most i bs) ≡ first_missed (sheet_conditions most i bs)
unfolding sheet_conditions
sheet_missed most i bs =
    let l = first_line bs in
    chain (header_in most i bs) _ (line_conditions (codes "NETW") 24 i bs ++ header_conditions most i l) _ (due_chain (codes "NETW") 24 i bs (header most i) _ (header_missed most i l))
    (λ h e.
    let n = header_in_numbers most i bs h e in
    let built : List Pipe × List ℕ → Network × List ℕ = λ r. (record { junctions = h.junctions; pump = h.pump; outlet = h.outlet; pipes = r.0 }, r.1) in
    kept (pipes_in h.pipes h.junctions (i + 1) (after_line bs) []) built
    ∙ pipes_missed h.pipes h.junctions (i + 1) (after_line bs) []
    ∙ (λ x. first_missed (pipes_conditions (sym n.1 x) (sym n.0 x) (i + 1) (after_line bs))))

pattern_missed : (i : ℕ) (t : Bool) (s : Timed) → missed (cond {A = Result Timed Refusal} t (Ok s) (Err (WrongLetter i))) ≡ first_missed (record { met = t; refusal = WrongLetter i } ∷ [])
unfolding first_missed
pattern_missed i true s = refl
pattern_missed i false s = refl

next_step_missed : (pipes i : ℕ) (bs : List ℕ) → missed (next_step_in pipes i bs) ≡ first_missed (line_conditions (codes "STEP") (9 + pipes) i bs ++ step_conditions i (first_line bs))
next_step_missed pipes i bs =
    let l = first_line bs in
    due_chain (codes "STEP") (9 + pipes) i bs (step_in i) (step_conditions i l) (number_chain i 1 1440 (field 0 l) _ _ (pattern_missed i (is_pattern (drop 9 l)) (record { minutes = number_or (field 0 l); letters = drop 9 l })))

-- j is the line after the last
abbrev at_text_end : ℕ → List Timed × List ℕ → Result (List Timed) Refusal
at_text_end j r = cond (eqb (length r.1) 0) (Ok r.0) (Err (TrailingBytes j))

trailing : (t : Bool) (j : ℕ) (ss : List Timed) → missed (cond {A = Result (List Timed) Refusal} t (Ok ss) (Err (TrailingBytes j))) ≡ cond t None (Some (TrailingBytes j))
trailing true j ss = refl
trailing false j ss = refl

steps_missed : (k pipes i j : ℕ) (bs : List ℕ) (ss : List Timed) → j ≡ i + k → missed (and_then (steps_in k pipes i bs ss) (at_text_end j)) ≡ first_missed (steps_conditions k pipes i bs)
unfolding first_missed
steps_missed zero pipes i j bs ss e = trailing (eqb (length bs) 0) j ss ∙ ap (λ (n : ℕ). cond {A = Option Refusal} (eqb (length bs) 0) None (Some (TrailingBytes n))) (let q : j ≡ i = omega arith in q)
steps_missed (suc k) pipes i j bs ss e =
    ap missed (regroup (next_step_in pipes i bs) (λ s. steps_in k pipes (i + 1) (after_line bs) (ss ++ s ∷ [])) (at_text_end j))
    ∙ chain (next_step_in pipes i bs) _ (line_conditions (codes "STEP") (9 + pipes) i bs ++ step_conditions i (first_line bs)) (steps_conditions k pipes (i + 1) (after_line bs)) (next_step_missed pipes i bs)
    (λ s f. steps_missed k pipes (i + 1) j (after_line bs) (ss ++ s ∷ []) (omega arith))

pub schedule_missed : (pipes i : ℕ) (bs : List ℕ) → missed (schedule_in pipes i bs) ≡ first_missed (schedule_conditions pipes i bs)
unfolding schedule_conditions
schedule_missed pipes i bs =
    let then : ℕ → Result (List Timed) Refusal = λ n. and_then (steps_in n pipes (i + 1) (after_line bs) []) (at_text_end (i + n + 1)) in
    ap missed (regroup (due (codes "SCHD") 9 i bs) (number_at i 0 1 100) then)
    ∙ due_chain (codes "SCHD") 9 i bs _ _ (number_chain i 1 100 (field 0 (first_line bs)) then _ (steps_missed (number_or (field 0 (first_line bs))) pipes (i + 1) (i + number_or (field 0 (first_line bs)) + 1) (after_line bs) [] (omega arith)))

pub refused_with : {A : Type 0} (r : Result A Refusal) (o : Option Refusal) (e : Refusal) → missed r ≡ o → (r ≡ Err e) ↔ (o ≡ Some e)
refused_with (Ok x) o e h = ((λ p. absurd cc), (λ p. absurd cc))
refused_with (Err d) o e h = ((λ p. cc), (λ p. let q : d ≡ e = cc in ap (λ (x : Refusal). Err x) q))
