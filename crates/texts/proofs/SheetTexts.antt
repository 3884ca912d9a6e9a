-- Sheets are read as they are written.
use Rattle.std.proofs.Common.{◌≡◌, ℕ, ◌+◌, ◌-◌, ◌≤◌, Bool, true, false, cond, ◌&&◌, eqb, ◌≢◌, List, [], ◌∷◌, ◌++◌, length, get_or, take, drop, Some, None, Ok, Err, codes, Result, sym, refl, ap, ◌∙◌, subst, inl, inr, arith}
use Rattle.std.proofs.ByRecursion.{All-weaker}
use Rattle.std.specs.List.{flat_map, AllByRecursion}
use Rattle.std.proofs.lemmas.Bool.Decides.{nat_tests, eqb_tells}
use Rattle.std.proofs.lemmas.List.{take_all, get_or-drop, length-drop}
use Rattle.network.specs.declared.valve.Valve.{Valve}
use Rattle.network.specs.declared.valve.Valve.TheVariants.{Open, Closed}
use Rattle.network.specs.Network.{Pipe, Network, Joins, Limited, Wired, Sound}
use Rattle.formats.specs.declared.refusal.Refusal.{Refusal}
use Rattle.formats.specs.declared.refusal.Refusal.TheVariants.{BadNumber, SameEnds}
use Rattle.formats.specs.declared.header.Header.{Header}
use Rattle.formats.specs.Fields.{written}
use Rattle.formats.specs.Letters.{valve_of}
use Rattle.formats.specs.Lines.{after_line}
use Rattle.formats.specs.Sheets.{and_then, of_kind, due, number_at, header, SoundHeader, header_in, valve_or_refusal, valve_at, pipe_in, next_pipe_in, pipes_in, sheet_in}
use Rattle.formats.specs.Written.{valve_letter, header_columns, pipe_columns, pipe_line, sheet_of}
use Rattle.formats.proofs.Lengths.{length_written}
use Rattle.formats.proofs.Numbers.{and_ok}
use Rattle.formats.proofs.Lengths.{header_long, pipe_long}
use Rattle.texts.proofs.RepeatedLines.{lines_written, lines_read}
use Rattle.texts.proofs.LineTexts.{Feedless, feedless, feedless_then, written_feedless, line_then, line_after, due_written, due_read, kind_read, and_split, ok_both, number_written, number_read, field_first, field_past, fields_split}

-- the fields of the line of a network
abbrev fields_of : Network → Header
fields_of w = record { junctions = w.junctions; pipes = length w.pipes; pump = w.pump; outlet = w.outlet }

module _ (w : Network) where
  header_kind : of_kind (codes "NETW") (header_columns w) ≡ true
  unfolding header_columns
  header_kind = refl

  header_feedless : Feedless (header_columns w)
  unfolding header_columns
  header_feedless =
      let a = written 5 w.junctions in
      let b = written 5 (length w.pipes) in
      let c = written 5 w.pump in
      let d = written 5 w.outlet in
      feedless_then (codes "NETW") (a ++ (b ++ (c ++ d))) (feedless (codes "NETW") refl)
      (feedless_then a (b ++ (c ++ d)) (written_feedless 5 w.junctions) (feedless_then b (c ++ d) (written_feedless 5 (length w.pipes)) (feedless_then c d (written_feedless 5 w.pump) (written_feedless 5 w.outlet))))

  module _ (most i : ℕ) (sound : Sound w) (few : w.junctions ≤ most) where
    header_written : header most i (header_columns w) ≡ Ok (fields_of w)
    unfolding header_columns
    header_written =
        let j = w.junctions in
        let l = header_columns w in
        let a = written 5 w.junctions in
        let b = written 5 (length w.pipes) in
        let c = written 5 w.pump in
        let d = written 5 w.outlet in
        let la = length_written 5 w.junctions in
        let lb = length_written 5 (length w.pipes) in
        let lc = length_written 5 w.pump in
        let ld = length_written 5 w.outlet in
        let x = sound.two in
        let y = sound.most in
        let z = sound.held in
        let s = sound.wired.pump_in in
        let t = sound.wired.outlet_in in
        let n : w.pump ≢ w.outlet = sound.wired.apart in
        let e₁ = number_written i 0 2 most l w.junctions (field_first a (b ++ (c ++ d)) la) x few (omega arith) in
        let e₂ = number_written i 1 0 512 l (length w.pipes) (ap (take 5) (field_past 0 a (b ++ (c ++ d)) la) ∙ field_first b (c ++ d) lb) (omega arith) z (omega arith) in
        let e₃ = number_written i 2 0 (j - 1) l w.pump (ap (take 5) (field_past 5 a (b ++ (c ++ d)) la ∙ field_past 0 b (c ++ d) lb) ∙ field_first c d lc) (omega arith) (omega arith) (omega arith) in
        let e₄ = number_written i 3 0 (j - 1) l w.outlet (ap (take 5) (field_past 10 a (b ++ (c ++ d)) la ∙ field_past 5 b (c ++ d) lb ∙ field_past 0 c d lc) ∙ take_all 5 d (omega arith)) (omega arith) (omega arith) (omega arith) in
        let q : eqb w.pump w.outlet ≡ false = grind (arith, nat_tests) in
        and_ok _ w.junctions _ e₁ ∙ and_ok _ (length w.pipes) _ e₂ ∙ and_ok _ w.pump _ e₃ ∙ and_ok _ w.outlet _ e₄
        ∙ ap (λ (x : Bool). cond {A = Result Header Refusal} x (Err (SameEnds i)) (Ok (fields_of w))) q

    header_in_written : (more : List ℕ) → header_in most i (header_columns w ++ 10 ∷ more) ≡ Ok (fields_of w)
    header_in_written more = and_ok _ (header_columns w) _ (sym (due_written (header_columns w) more header_feedless (codes "NETW") 24 i (header_long w) header_kind)) ∙ header_written

-- the last five columns of a pipe line: blanks and the letter
abbrev tail_in : ℕ → List ℕ → Result Valve Refusal
tail_in i t = cond (((eqb (get_or t 0 0) 32 && eqb (get_or t 1 0) 32) && eqb (get_or t 2 0) 32) && eqb (get_or t 3 0) 32) (valve_or_refusal i (valve_of (get_or t 4 0))) (Err (BadNumber i))

valve_tail : (i : ℕ) (l : List ℕ) → valve_at i l ≡ tail_in i (drop 19 l)
valve_tail i l =
    let e₀ = get_or-drop 19 l 0 0 in
    let e₁ = get_or-drop 19 l 1 0 in
    let e₂ = get_or-drop 19 l 2 0 in
    let e₃ = get_or-drop 19 l 3 0 in
    let e₄ = get_or-drop 19 l 4 0 in
    sym (λ k. cond {A = Result Valve Refusal} (((eqb (e₀ k) 32 && eqb (e₁ k) 32) && eqb (e₂ k) 32) && eqb (e₃ k) 32) (valve_or_refusal i (valve_of (e₄ k))) (Err (BadNumber i)))

abbrev tail_of : Valve → List ℕ
tail_of v = codes "    " ++ valve_letter v ∷ []

tail_written : (i : ℕ) (v : Valve) → tail_in i (tail_of v) ≡ Ok v
tail_written i Open = refl
tail_written i Closed = refl

tail_feedless : (v : Valve) → Feedless (tail_of v)
tail_feedless Open = feedless (tail_of Open) refl
tail_feedless Closed = feedless (tail_of Closed) refl

module _ (p : Pipe) where
  pipe_kind : of_kind (codes "PIPE") (pipe_columns p) ≡ true
  unfolding pipe_columns
  pipe_kind = refl

  pipe_feedless : Feedless (pipe_columns p)
  unfolding pipe_columns
  pipe_feedless =
      let a = written 5 p.from in
      let b = written 5 p.to in
      let c = written 5 p.limit in
      let d = tail_of p.valve in
      feedless_then (codes "PIPE") (a ++ (b ++ (c ++ d))) (feedless (codes "PIPE") refl)
      (feedless_then a (b ++ (c ++ d)) (written_feedless 5 p.from) (feedless_then b (c ++ d) (written_feedless 5 p.to) (feedless_then c d (written_feedless 5 p.limit) (tail_feedless p.valve))))

  module _ (n i : ℕ) (few : n ≤ 64) (joins : Joins n p) (limited : Limited p) where
    pipe_written : pipe_in n i (pipe_columns p) ≡ Ok p
    unfolding pipe_columns
    pipe_written =
        let l = pipe_columns p in
        let a = written 5 p.from in
        let b = written 5 p.to in
        let c = written 5 p.limit in
        let d = tail_of p.valve in
        let la = length_written 5 p.from in
        let lb = length_written 5 p.to in
        let lc = length_written 5 p.limit in
        let x = joins.from_in in
        let y = joins.to_in in
        let z : p.from ≢ p.to = joins.apart in
        let s = limited.some in
        let t = limited.few in
        let e₁ = number_written i 0 0 (n - 1) l p.from (field_first a (b ++ (c ++ d)) la) (omega arith) (omega arith) (omega arith) in
        let e₂ = number_written i 1 0 (n - 1) l p.to (ap (take 5) (field_past 0 a (b ++ (c ++ d)) la) ∙ field_first b (c ++ d) lb) (omega arith) (omega arith) (omega arith) in
        let e₃ = number_written i 2 1 60000 l p.limit (ap (take 5) (field_past 5 a (b ++ (c ++ d)) la ∙ field_past 0 b (c ++ d) lb) ∙ field_first c d lc) s t t in
        let e₄ : valve_at i l ≡ Ok p.valve = valve_tail i l ∙ ap (tail_in i) (field_past 10 a (b ++ (c ++ d)) la ∙ field_past 5 b (c ++ d) lb ∙ field_past 0 c d lc) ∙ tail_written i p.valve in
        let q : eqb p.from p.to ≡ false = grind (arith, nat_tests) in
        and_ok _ p.from _ e₁ ∙ and_ok _ p.to _ e₂ ∙ and_ok _ p.limit _ e₃ ∙ and_ok _ p.valve _ (sym e₄)
        ∙ ap (λ (x : Bool). cond {A = Result Pipe Refusal} x (Err (SameEnds i)) (Ok p)) q

    next_pipe_written : (more : List ℕ) → next_pipe_in n i (pipe_columns p ++ 10 ∷ more) ≡ Ok p
    next_pipe_written more = and_ok _ (pipe_columns p) _ (sym (due_written (pipe_columns p) more pipe_feedless (codes "PIPE") 24 i (pipe_long p) pipe_kind)) ∙ pipe_written

abbrev Piped : ℕ → Pipe → Type 0
Piped n p = Joins n p × Limited p

piped : (n : ℕ) (ps : List Pipe) → AllByRecursion (Joins n) ps → AllByRecursion Limited ps → AllByRecursion (Piped n) ps
piped n [] j l = tt
piped n (p ∷ ps) (j, js) (l, ls) = ((j, l), piped n ps js ls)

pipes_written : (ps : List Pipe) (n i : ℕ) (more : List ℕ) → n ≤ 64 → AllByRecursion (Piped n) ps → pipes_in (length ps) n i (flat_map pipe_line ps ++ more) [] ≡ Ok (ps, more)
pipes_written ps n i more h all = lines_written (next_pipe_in n) pipe_columns (Piped n) (λ p q. pipe_feedless p) (λ p j rest q. next_pipe_written p n j h q.0 q.1 rest) ps [] i more all

-- written, then read
pub sheet_written : (most i : ℕ) (w : Network) (more : List ℕ) → Sound w → w.junctions ≤ most → sheet_in most i (sheet_of w ++ more) ≡ Ok (w, more)
unfolding sheet_of
sheet_written most i w more sound few =
    let rest = flat_map pipe_line w.pipes ++ more in
    let bs = header_columns w ++ 10 ∷ rest in
    let built : List Pipe × List ℕ → Result (Network × List ℕ) Refusal = λ r. Ok (record { junctions = w.junctions; pump = w.pump; outlet = w.outlet; pipes = r.0 }, r.1) in
    ap (sheet_in most i) (line_then (header_columns w) (flat_map pipe_line w.pipes) more)
    ∙ and_ok (header_in most i bs) (fields_of w) _ (sym (header_in_written w most i sound few rest))
    ∙ ap (λ (x : List ℕ). and_then (pipes_in (length w.pipes) w.junctions (i + 1) x []) built) (line_after (header_columns w) rest (header_feedless w))
    ∙ ap (λ r. and_then r built) (pipes_written w.pipes w.junctions (i + 1) more sound.most (piped w.junctions w.pipes sound.wired.joins sound.limited))

-- two ends that were found different
pub ends_read : {A : Type 0} (a b i : ℕ) (x y : A) → cond {A = Result A Refusal} (eqb a b) (Err (SameEnds i)) (Ok x) ≡ Ok y → (a ≢ b) × (x ≡ y)
ends_read {A} a b i x y e = go (eqb a b) refl e
  where
    go : (t : Bool) → eqb a b ≡ t → cond {A = Result A Refusal} t (Err (SameEnds i)) (Ok x) ≡ Ok y → (a ≢ b) × (x ≡ y)
    go true p f = absurd cc
    go false p f = ((λ q. absurd (grind (arith, nat_tests))), cc)

-- the line of a network, as its fields say
abbrev fields_written : Header → List ℕ
fields_written h = codes "NETW" ++ (written 5 h.junctions ++ (written 5 h.pipes ++ (written 5 h.pump ++ written 5 h.outlet)))

header_read : (most i : ℕ) (l : List ℕ) (h : Header) → length l ≡ 24 → of_kind (codes "NETW") l ≡ true → header most i l ≡ Ok h → (l ≡ fields_written h) × SoundHeader most h
header_read most i l h long kind e =
    let s₁ = and_split (number_at i 0 2 most l) _ h e in
    let j = s₁.0 in
    let s₂ = and_split (number_at i 1 0 512 l) _ h s₁.1.1 in
    let s₃ = and_split (number_at i 2 0 (j - 1) l) _ h s₂.1.1 in
    let s₄ = and_split (number_at i 3 0 (j - 1) l) _ h s₃.1.1 in
    let n₁ = number_read i 0 2 most l j (omega arith) s₁.1.0 in
    let n₂ = number_read i 1 0 512 l s₂.0 (omega arith) s₂.1.0 in
    let n₃ = number_read i 2 0 (j - 1) l s₃.0 (omega arith) s₃.1.0 in
    let n₄ = number_read i 3 0 (j - 1) l s₄.0 (omega arith) s₄.1.0 in
    let g : Header = record { junctions = j; pipes = s₂.0; pump = s₃.0; outlet = s₄.0 } in
    let r = ends_read s₃.0 s₄.0 i g h s₄.1.1 in
    let k = kind_read 78 69 84 87 l (omega arith) kind in
    let d = length-drop 19 l in
    let last : drop 19 l ≡ written 5 s₄.0 = sym (take_all 5 (drop 19 l) (omega arith)) ∙ n₄.0 in
    let is : l ≡ fields_written g = fields_split l ∙ (λ x. k x ++ (n₁.0 x ++ (n₂.0 x ++ (n₃.0 x ++ last x)))) in
    let a₁ = n₁.1 in
    let a₂ = n₁.2 in
    let a₃ = n₂.2 in
    let a₄ = n₃.2 in
    let a₅ = n₄.2 in
    let sound : SoundHeader most g = (a₁, a₂, a₃, omega arith, omega arith, r.0) in
    subst (λ (x : Header). (l ≡ fields_written x) × SoundHeader most x) r.1 (is, sound)

-- a letter that was read
letter_read : (i b : ℕ) (v : Valve) → valve_or_refusal i (valve_of b) ≡ Ok v → b ≡ valve_letter v
letter_read i b v e =
    elim (eqb_tells b 79) [
      | inl p ↦ subst (λ (x : Valve). b ≡ valve_letter x) (let q : Open ≡ v = let f = ap (λ (t : Bool). valve_or_refusal i (cond t (Some Open) (cond (eqb b 67) (Some Closed) None))) p.0 in cc in q) p.1
      | inr p ↦ elim (eqb_tells b 67) [
        | inl z ↦ subst (λ (x : Valve). b ≡ valve_letter x) (let q : Closed ≡ v = let f = ap (λ (t : Bool). valve_or_refusal i (cond t (Some Open) (cond (eqb b 67) (Some Closed) None))) p.0 in let g = ap (λ (t : Bool). valve_or_refusal i (cond t (Some Closed) None)) z.0 in cc in q) z.1
        | inr z ↦ absurd (let f = ap (λ (t : Bool). valve_or_refusal i (cond t (Some Open) (cond (eqb b 67) (Some Closed) None))) p.0 in let g = ap (λ (t : Bool). valve_or_refusal i (cond t (Some Closed) None)) z.0 in cc)
      ]
    ]

filled : (t : Bool) (i : ℕ) (r : Result Valve Refusal) (v : Valve) → cond t r (Err (BadNumber i)) ≡ Ok v → (t ≡ true) × (r ≡ Ok v)
filled true i r v e = (refl, e)
filled false i r v e = absurd cc

tail_read : (i : ℕ) (t : List ℕ) (v : Valve) → length t ≡ 5 → tail_in i t ≡ Ok v → t ≡ tail_of v
tail_read i [] v h e = absurd (omega arith)
tail_read i (a ∷ []) v h e = absurd (omega arith)
tail_read i (a ∷ b ∷ []) v h e = absurd (omega arith)
tail_read i (a ∷ b ∷ c ∷ []) v h e = absurd (omega arith)
tail_read i (a ∷ b ∷ c ∷ d ∷ []) v h e = absurd (omega arith)
tail_read i (a ∷ b ∷ c ∷ d ∷ x ∷ y ∷ t) v h e = absurd (omega arith)
tail_read i (a ∷ b ∷ c ∷ d ∷ x ∷ []) v h e =
    let f = filled (((eqb a 32 && eqb b 32) && eqb c 32) && eqb d 32) i (valve_or_refusal i (valve_of x)) v e in
    let g : (((eqb a 32 && eqb b 32) && eqb c 32) && eqb d 32) ≡ true = f.0 in
    let p : a ≡ 32 = grind (arith, nat_tests) in
    let q : b ≡ 32 = grind (arith, nat_tests) in
    let r : c ≡ 32 = grind (arith, nat_tests) in
    let s : d ≡ 32 = grind (arith, nat_tests) in
    let z = letter_read i x v f.1 in
    λ k. p k ∷ q k ∷ r k ∷ s k ∷ z k ∷ []

pipe_read : (n i : ℕ) (l : List ℕ) (p : Pipe) → 1 ≤ n → length l ≡ 24 → of_kind (codes "PIPE") l ≡ true → pipe_in n i l ≡ Ok p → (l ≡ pipe_columns p) × Joins n p × Limited p
unfolding pipe_columns
pipe_read n i l p some long kind e =
    let s₁ = and_split (number_at i 0 0 (n - 1) l) _ p e in
    let s₂ = and_split (number_at i 1 0 (n - 1) l) _ p s₁.1.1 in
    let s₃ = and_split (number_at i 2 1 60000 l) _ p s₂.1.1 in
    let s₄ = and_split (valve_at i l) _ p s₃.1.1 in
    let n₁ = number_read i 0 0 (n - 1) l s₁.0 (omega arith) s₁.1.0 in
    let n₂ = number_read i 1 0 (n - 1) l s₂.0 (omega arith) s₂.1.0 in
    let n₃ = number_read i 2 1 60000 l s₃.0 (omega arith) s₃.1.0 in
    let q : Pipe = record { from = s₁.0; to = s₂.0; limit = s₃.0; valve = s₄.0 } in
    let r = ends_read s₁.0 s₂.0 i q p s₄.1.1 in
    let k = kind_read 80 73 80 69 l (omega arith) kind in
    let d = length-drop 19 l in
    let last = tail_read i (drop 19 l) s₄.0 (omega arith) (sym (valve_tail i l) ∙ s₄.1.0) in
    let is : l ≡ pipe_columns q = fields_split l ∙ (λ x. k x ++ (n₁.0 x ++ (n₂.0 x ++ (n₃.0 x ++ last x)))) in
    let a₁ = n₁.2 in
    let a₂ = n₂.2 in
    let joins : Joins n q = record { from_in = omega arith; to_in = omega arith; apart = r.0 } in
    let limited : Limited q = record { some = n₃.1; few = n₃.2 } in
    subst (λ (x : Pipe). (l ≡ pipe_columns x) × Joins n x × Limited x) r.1 (is, joins, limited)

next_pipe_read : (n i : ℕ) (bs : List ℕ) (p : Pipe) → 1 ≤ n → next_pipe_in n i bs ≡ Ok p → (bs ≡ pipe_columns p ++ 10 ∷ after_line bs) × Piped n p
next_pipe_read n i bs p some e =
    let t = and_split (due (codes "PIPE") 24 i bs) (pipe_in n i) p e in
    let d = due_read (codes "PIPE") 24 i bs t.0 t.1.0 in
    let c = pipe_read n i t.0 p some d.long d.kinded t.1.1 in
    (d.is ∙ ap (λ (l : List ℕ). l ++ 10 ∷ after_line bs) c.0, (c.1, c.2))

-- read, then written
pub sheet_read : (most i : ℕ) (bs : List ℕ) (w : Network) (more : List ℕ) → most ≤ 64 → sheet_in most i bs ≡ Ok (w, more) → (bs ≡ sheet_of w ++ more) × Sound w × (w.junctions ≤ most)
unfolding sheet_of header_columns
sheet_read most i bs w more few e =
    let s = and_split (header_in most i bs) _ (w, more) e in
    let h = s.0 in
    let t = and_split (due (codes "NETW") 24 i bs) (header most i) h s.1.0 in
    let l = t.0 in
    let d = due_read (codes "NETW") 24 i bs l t.1.0 in
    let c = header_read most i l h d.long d.kinded t.1.1 in
    let a = c.1 in
    let q = and_split (pipes_in h.pipes h.junctions (i + 1) (after_line bs) []) _ (w, more) s.1.1 in
    let r = q.0 in
    let some : 1 ≤ h.junctions = omega arith in
    let p = lines_read (next_pipe_in h.junctions) pipe_columns (Piped h.junctions) (λ j b x z. next_pipe_read h.junctions j b x some z) h.pipes (i + 1) (after_line bs) [] r.0 r.1 q.1.0 in
    let joins = All-weaker (Piped h.junctions) (Joins h.junctions) (λ x z. z.0) p.new p.sound in
    let limited = All-weaker (Piped h.junctions) Limited (λ x z. z.1) p.new p.sound in
    let u : Network = record { junctions = h.junctions; pump = h.pump; outlet = h.outlet; pipes = p.new } in
    let both = ok_both (record { junctions = h.junctions; pump = h.pump; outlet = h.outlet; pipes = r.0 }) w r.1 more q.1.1 in
    let same : u ≡ w = ap (λ (x : List Pipe). record { junctions = h.junctions; pump = h.pump; outlet = h.outlet; pipes = x }) (sym p.all) ∙ both.0 in
    let head : l ≡ header_columns u = c.0 ∙ ap (λ (n : ℕ). codes "NETW" ++ (written 5 h.junctions ++ (written 5 n ++ (written 5 h.pump ++ written 5 h.outlet)))) (sym p.counted) in
    let is : bs ≡ sheet_of u ++ r.1 = d.is ∙ (λ x. head x ++ 10 ∷ p.is x) ∙ sym (line_then (header_columns u) (flat_map pipe_line p.new) r.1) in
    let wired : Wired u = record { pump_in = a.3; outlet_in = a.4; apart = a.5; joins = joins } in
    let held = p.counted in
    let sound : Sound u = record { wired = wired; two = a.0; most = omega arith; held = omega arith; limited = limited } in
    subst (λ (x : Network). (bs ≡ sheet_of x ++ more) × Sound x × (x.junctions ≤ most)) same (is ∙ ap (λ (x : List ℕ). sheet_of u ++ x) both.1, sound, a.1)
