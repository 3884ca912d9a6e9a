-- What the answers of a run say.
use Rattle.std.proofs.Common.{◌≡◌, ℕ, zero, suc, ◌<◌, ◌≤◌, min, Bool, true, false, cond, ltb, ◌↔◌, List, [], ◌∷◌, ◌++◌, length, take, ℤ, pos, ◌+ℤ◌, ◌-ℤ◌, Some, Ok, Err, vec_items, Decides, Result, Vec, sym, refl, ap, ◌∙◌, subst, inl, inr, arith}
use Rattle.std.proofs.lemmas.List.{nil_from_length, take-take, length-take}
use Rattle.std.proofs.lemmas.Option.{slice_get_past}
use Rattle.std.proofs.lemmas.Int.{ints}
use Rattle.std.proofs.lemmas.Bool.{ltb-false, cases_lt}
use Rattle.std.specs.declared.alloc.Global.{Global}
use Rattle.std.specs.List.{slice_get}
use Rattle.network.specs.declared.report.Report as report
use Rattle.network.specs.declared.valve.Valve as valve
use Rattle.network.specs.Cuts.{SameCuts}
use Rattle.network.specs.Flows.{value, Greatest}
use Rattle.network.specs.Governing.{governing, Raises}
use Rattle.network.specs.Network.{Network, Wired, bare}
use Rattle.network.specs.Reaches.{Reached, Apart}
use Rattle.network.specs.Reports.{report_of}
use Rattle.network.specs.Residual.{pipe, size}
use Rattle.network.proofs.Gathered.{by_cuts, by_flow, governing_pipes_of}
use Rattle.network.proofs.Greatest.{some_greatest}
use Rattle.network.proofs.Raising.{same_report_lem, one_minimum}
use Rattle.formats.specs.declared.refusal.Refusal.{Refusal}
use Rattle.formats.specs.declared.refusal.Refusal.TheVariants.{FewPlaces, NoSuchPipe, LittleSpace}
use Rattle.formats.specs.Spaces.{put_at}
use Rattle.formats.specs.Written.{sheet_of}
use Rattle.interface.specs.Verdicts.{loading, reporting, asking, writing, reading, change}
use Rattle.interface.specs.Works.{Manner}
use Rattle.runs.specs.declared.answer.Answer.{Answer}
use Rattle.runs.specs.declared.answer.Answer.TheVariants.{Changed, Reported, Governs, Sheet, Flow, SheetRefused, FlowRefused}
use Rattle.runs.specs.declared.call.Request.{Request}
use Rattle.runs.specs.declared.call.Request.TheVariants.{Governing, WriteSheet, ReadFlow}
use Rattle.runs.specs.declared.call.Call.{Call}
use Rattle.runs.specs.Networks.{accepted, accepted_sheet, next_network, network_after, network_at}
use Rattle.runs.specs.Runs.{Answers, loads, not_loads, opens, not_opens, closes, not_closes, limits, not_limits, patterns, not_patterns, reports, not_reports, governs, not_governs, writes, not_writes, reads, not_reads, Run, ends, goes, Begun}
use Rattle.runs.specs.Statements.{Asks, Tells, Refuses, refused, sheet_refused, flow_refused, AnsweredAt, ReportsCuts, ReadsFlow, WritesSheet, EqualReports, Faithful}
use Rattle.runs.proofs.Fronts.{front_taken, front_dropped, front_long}
use Rattle.runs.proofs.Sheets.{only_sheet, sheet_loads}
use Rattle.runs.proofs.Sounds.{Fits, bare_fits, after_fits}

-- what a verdict accepted
pub not_refused : {A : Type 0} (b : Bool) (e : Refusal) (x y : A) → cond {A = Result A Refusal} b (Err e) (Ok x) ≡ Ok y → (b ≡ false) × (x ≡ y)
not_refused true e x y h = let z : ◌≡◌ {A = ℕ} 0 1 = cc in absurd (omega arith)
not_refused false e x y h = (refl, cc)

not_beyond : {A : Type 0} (b t : Bool) (e d : Refusal) (x y : A) → cond {A = Result A Refusal} b (Err e) (cond t (Ok x) (Err d)) ≡ Ok y → x ≡ y
not_beyond true t e d x y h = let z : ◌≡◌ {A = ℕ} 0 1 = cc in absurd (omega arith)
not_beyond false true e d x y h = cc
not_beyond false false e d x y h = let z : ◌≡◌ {A = ℕ} 0 1 = cc in absurd (omega arith)

same_cuts : (w u : Network) → Wired w → Wired u → (r s : report.Report) → report_of w ≡ r → report_of u ≡ s → (r ≡ s) ↔ SameCuts w u
same_cuts w u w-wired u-wired r s p q = let b = same_report_lem w u w-wired u-wired in (λ e. b.0 (p ∙ e ∙ sym q), λ c. sym p ∙ b.1 c ∙ q)

nth_in : {X : Type 0} (xs : List X) (i : ℕ) (x : X) → slice_get xs i ≡ Some x → i < length xs
nth_in xs i x e = elim (cases_lt i (length xs)) [
  | inl l ↦ l
  | inr l ↦ let n = slice_get_past xs i l in let z : ◌≡◌ {A = ℕ} 0 1 = cc in absurd (omega arith)
]

nth_take : {X : Type 0} (xs : List X) (n i : ℕ) → i < n → slice_get (take n xs) i ≡ slice_get xs i
nth_take xs zero i l = absurd (omega arith)
nth_take [] (suc n) i l = refl
nth_take (x ∷ xs) (suc n) zero l = refl
nth_take (x ∷ xs) (suc n) (suc i) l = nth_take xs n i (omega arith)

added : (x y d : ℤ) (a b : ℕ) → x ≡ pos a → y ≡ pos b → d ≡ pos b -ℤ pos a → y ≡ x +ℤ d
added x y d a b p q r = omega (arith, ints)

-- the network after one call more
after_more : (most room : ℕ) (w : Network) (cs : List Call) (i : ℕ) (c : Call) → slice_get cs i ≡ Some c
    → network_after most room w (take (suc i) cs) ≡ next_network most (min c.places room) (network_after most room w (take i cs)) c.request
after_more most room w [] i c e = let z : ◌≡◌ {A = ℕ} 0 1 = cc in absurd (omega arith)
after_more most room w (d ∷ cs) zero c e = ap (λ (x : Call). next_network most (min x.places room) w x.request) (let q : d ≡ c = cc in q)
after_more most room w (d ∷ cs) (suc i) c e = after_more most room (next_network most (min d.places room) w d.request) cs i c e

pub bare_greatest : Greatest bare []
bare_greatest =
    let g = some_greatest bare (bare_fits 2 (omega arith)).0.wired in
    subst (λ (f : List ℕ). Greatest bare f) (nil_from_length g.0 g.1.flow.within.each) g.1

module _ {Λ : Type 0} {most : ℕ} {manner : Manner} {good : Λ → Λ → Type 0} {start : Λ} {extended : Λ → ℕ → Λ} where
  next_is : {p : ℕ} {w u : Network} {f g : List ℕ} {q : Request} {a : Answer} → Answers most manner good start extended p w f q a u g → u ≡ next_network most p w q
  next_is {w} (loads m e k h) = sym (ap (accepted_sheet w) e)
  next_is {w} (not_loads e) = sym (ap (accepted_sheet w) e)
  next_is {w} (opens e d k h) = sym (ap (accepted w) e)
  next_is {w} (not_opens e) = sym (ap (accepted w) e)
  next_is {w} (closes e d k h) = sym (ap (accepted w) e)
  next_is {w} (not_closes e) = sym (ap (accepted w) e)
  next_is {w} (limits e d k h) = sym (ap (accepted w) e)
  next_is {w} (not_limits e) = sym (ap (accepted w) e)
  next_is {w} (patterns e d k h) = sym (ap (accepted w) e)
  next_is {w} (not_patterns e) = sym (ap (accepted w) e)
  next_is (reports e) = refl
  next_is (not_reports e) = refl
  next_is (governs e) = refl
  next_is (not_governs e) = refl
  next_is (writes e d) = refl
  next_is (not_writes e d) = refl
  next_is (reads e d) = refl
  next_is (not_reads e d) = refl

  -- the flow that is kept is greatest
  next_greatest : {p : ℕ} {w u : Network} {f g : List ℕ} {q : Request} {a : Answer} → Answers most manner good start extended p w f q a u g → Greatest w f → Greatest u g
  next_greatest (loads m e k h) b = h
  next_greatest (not_loads e) b = b
  next_greatest (opens e d k h) b = h
  next_greatest (not_opens e) b = b
  next_greatest (closes e d k h) b = h
  next_greatest (not_closes e) b = b
  next_greatest (limits e d k h) b = h
  next_greatest (not_limits e) b = b
  next_greatest (patterns e d k h) b = h
  next_greatest (not_patterns e) b = b
  next_greatest (reports e) b = b
  next_greatest (not_reports e) b = b
  next_greatest (governs e) b = b
  next_greatest (not_governs e) b = b
  next_greatest (writes e d) b = b
  next_greatest (not_writes e d) b = b
  next_greatest (reads e d) b = b
  next_greatest (not_reads e d) b = b

  leaves : {p : ℕ} {w u : Network} {f g : List ℕ} {q : Request} {a : Answer} {e : Refusal} → Refuses a e → Answers most manner good start extended p w f q a u g → u ≡ w
  leaves refused (not_loads e) = refl
  leaves refused (not_opens e) = refl
  leaves refused (not_closes e) = refl
  leaves refused (not_limits e) = refl
  leaves refused (not_patterns e) = refl
  leaves refused (not_reports e) = refl
  leaves refused (not_governs e) = refl
  leaves sheet_refused (not_writes e d) = refl
  leaves flow_refused (not_reads e d) = refl

  changed : {p : ℕ} {w u : Network} {f g : List ℕ} {q : Request} {d : ℤ} {n : ℕ} → Answers most manner good start extended p w f q (Changed d n) u g → d ≡ change w u
  changed (opens e d k h) = d
  changed (closes e d k h) = d
  changed (limits e d k h) = d
  changed (patterns e d k h) = d

  reported : {p : ℕ} {w u : Network} {f g : List ℕ} {q : Request} {r : report.Report} → Answers most manner good start extended p w f q (Reported r) u g → reporting most p w ≡ Ok r
  reported (reports e) = e

  asked : {p : ℕ} {w u : Network} {f g : List ℕ} {k : ℕ} {b : Bool} → Answers most manner good start extended p w f (Governing k) (Governs b) u g → asking most p w k ≡ Ok b
  asked (governs e) = e

  written : {p : ℕ} {w u : Network} {f g : List ℕ} {space v : Vec ℕ Global} {n : ℕ} → Answers most manner good start extended p w f (WriteSheet space) (Sheet n v) u g
      → (writing (length (vec_items space)) w ≡ Ok n) × (vec_items v ≡ put_at 0 (sheet_of w) (vec_items space))
  written (writes e d) = (e, d)

  read : {p : ℕ} {w u : Network} {f g : List ℕ} {row v : Vec ℕ Global} {n : ℕ} → Answers most manner good start extended p w f (ReadFlow row) (Flow n v) u g
      → (reading (length (vec_items row)) w ≡ Ok n) × (vec_items v ≡ put_at 0 f (vec_items row))
  read (reads e d) = (e, d)

  not_written : {p : ℕ} {w u : Network} {f g : List ℕ} {space v : Vec ℕ Global} {e : Refusal} → Answers most manner good start extended p w f (WriteSheet space) (SheetRefused e v) u g → vec_items v ≡ vec_items space
  not_written (not_writes e d) = d

  not_read : {p : ℕ} {w u : Network} {f g : List ℕ} {row v : Vec ℕ Global} {e : Refusal} → Answers most manner good start extended p w f (ReadFlow row) (FlowRefused e v) u g → vec_items v ≡ vec_items row
  not_read (not_reads e d) = d

module _ {Λ : Type 0} (most : ℕ) (manner : Manner) (good : Λ → Λ → Type 0) (start : Λ) (extended : Λ → ℕ → Λ) (room : ℕ) where
  -- call i of a run, and its answer
  record At (w : Network) (cs : List Call) (i : ℕ) (a : Answer) : Type 0 where
    call : Call
    kept : List ℕ
    next : Network
    flow : List ℕ
    called : slice_get cs i ≡ Some call
    greatest : Greatest (network_after most room w (take i cs)) kept
    answers : Answers most manner good start extended (min call.places room) (network_after most room w (take i cs)) kept call.request a next flow

  at : {w v : Network} {f h : List ℕ} {cs : List Call} {told : List Answer} → Run most manner good start extended room w f cs told v h → Greatest w f → (i : ℕ) (a : Answer) → slice_get told i ≡ Some a → At w cs i a
  at ends b i x e = let z : ◌≡◌ {A = ℕ} 0 1 = cc in absurd (omega arith)
  at (goes {w} {u} {f} {g} {c} {a} s l) b zero x e = record {
    call = c;
    kept = f;
    next = u;
    flow = g;
    called = refl;
    greatest = b;
    answers = subst (λ (y : Answer). Answers most manner good start extended (min c.places room) w f c.request y u g) (let q : a ≡ x = cc in q) s;
  }
  at (goes {cs} s l) b (suc i) x e =
      let r = at l (next_greatest s b) i x e in
      record {
        call = r.call;
        kept = r.kept;
        next = r.next;
        flow = r.flow;
        called = r.called;
        greatest = subst (λ (y : Network). Greatest (network_after most room y (take i cs)) r.kept) (next_is s) r.greatest;
        answers = subst (λ (y : Network). Answers most manner good start extended (min r.call.places room) (network_after most room y (take i cs)) r.kept r.call.request x r.next r.flow)
            (next_is s) r.answers;
      }

  told_each : {w v : Network} {f h : List ℕ} {cs : List Call} {told : List Answer} → Run most manner good start extended room w f cs told v h → length told ≡ length cs
  told_each ends = refl
  told_each (goes s l) = let e = told_each l in omega arith

  module _ (two : 2 ≤ most) (held : most ≤ 64) (cs : List Call) (told : List Answer) (b : Begun most manner good start extended room bare [] cs told) where
    here : (i : ℕ) → Fits most (network_at most room cs i)
    unfolding network_at
    here i = after_fits most held room bare (bare_fits most two) (take i cs)

    -- call i, and its answer
    pub step : (i : ℕ) (a : Answer) → Tells told i a → AnsweredAt most manner good start extended room cs i a
    unfolding network_at
    step i a e =
        let r = at b.run bare_greatest i a e in
        let l = nth_in told i a e in
        let first : take i (take (length told) cs) ≡ take i cs = take-take i (length told) cs (omega arith) in
        let called : slice_get cs i ≡ Some r.call = sym (nth_take cs (length told) i l) ∙ r.called in
        let here : Answers most manner good start extended (min r.call.places room) (network_after most room bare (take i cs)) r.kept r.call.request a r.next r.flow =
        subst (λ (x : List Call). Answers most manner good start extended (min r.call.places room) (network_after most room bare x) r.kept r.call.request a r.next r.flow) first r.answers in
        record {
          call = r.call;
          called = called;
          before = r.kept;
          after = r.flow;
          greatest = subst (λ (x : List Call). Greatest (network_after most room bare x) r.kept) first r.greatest;
          answers = subst (λ (x : Network). Answers most manner good start extended (min r.call.places room) (network_after most room bare (take i cs)) r.kept r.call.request a x r.flow)
              (next_is here ∙ sym (after_more most room bare cs i r.call called)) here;
        }

    -- its request is known
    requested : (i : ℕ) (q : Request) (a : Answer) → Asks cs i q → (s : AnsweredAt most manner good start extended room cs i a)
        → Answers most manner good start extended (min s.call.places room) (network_at most room cs i) s.before q a (network_at most room cs (suc i)) s.after
    requested i q a asks s =
        let c : s.call ≡ asks.0 = cc (s.called, asks.1) in
        subst (λ (x : Request). Answers most manner good start extended (min s.call.places room) (network_at most room cs i) s.before x a (network_at most room cs (suc i)) s.after)
        (ap (λ (x : Call). x.request) c ∙ asks.2) s.answers

    refusal_leaves : (i : ℕ) (a : Answer) (e : Refusal) → Tells told i a → Refuses a e → network_at most room cs (suc i) ≡ network_at most room cs i
    refusal_leaves i a e h r = leaves r (step i a h).answers

    change_is : (i n : ℕ) (d : ℤ) → Tells told i (Changed d n) → (f g : List ℕ) → Greatest (network_at most room cs i) f → Greatest (network_at most room cs (suc i)) g
        → value (network_at most room cs (suc i)) g ≡ value (network_at most room cs i) f +ℤ d
    change_is i n d h f g old new =
        let w = network_at most room cs i in
        let u = network_at most room cs (suc i) in
        let by : d ≡ change w u = changed (step i (Changed d n) h).answers in
        added _ _ _ _ _ (by_flow w (here i).0.wired f old).value_is (by_flow u (here (suc i)).0.wired g new).value_is by

    report_is : (i : ℕ) (r : report.Report) → Tells told i (Reported r) → report_of (network_at most room cs i) ≡ r
    report_is i r e = let s = step i (Reported r) e in (not_refused (ltb (min s.call.places room) most) FewPlaces _ r (reported s.answers)).1

    reports_cuts : (i : ℕ) (r : report.Report) → Tells told i (Reported r) → ReportsCuts (network_at most room cs i) r
    reports_cuts i r e =
        let w = network_at most room cs i in
        let wired = (here i).0.wired in
        let c = by_cuts w wired in
        subst (λ (x : report.Report). ReportsCuts w x) (report_is i r e)
        (record { is = refl; least = c.least; every = c.every; some = c.some; smallest = c.smallest; largest = c.largest; one = one_minimum w wired })

    governs_so : (i k : ℕ) (t : Bool) → Asks cs i (Governing k) → Tells told i (Governs t)
        → Decides t (((pipe (network_at most room cs i) k).valve ≡ valve.TheVariants.Open) × Raises (network_at most room cs i) k)
    governs_so i k t asks e =
        let w = network_at most room cs i in
        let s = step i (Governs t) e in
        let same : governing w (report_of w) k ≡ t =
        not_beyond (ltb (min s.call.places room) most) (ltb k (size w)) FewPlaces NoSuchPipe (governing w (report_of w) k) t (asked (requested i (Governing k) (Governs t) asks s)) in
        subst (λ (x : Bool). Decides x (((pipe w k).valve ≡ valve.TheVariants.Open) × Raises w k)) same (governing_pipes_of w (here i).0.wired k).flows

    reads_flow : (i n : ℕ) (row v : Vec ℕ Global) → Asks cs i (ReadFlow row) → Tells told i (Flow n v) → ReadsFlow (network_at most room cs i) (vec_items row) n (vec_items v)
    reads_flow i n row v asks e =
        let w = network_at most room cs i in
        let s = step i (Flow n v) e in
        let r = read (requested i (ReadFlow row) (Flow n v) asks s) in
        let ok = not_refused (ltb (length (vec_items row)) (size w)) LittleSpace (size w) n r.0 in
        let long : n ≡ length s.before = sym ok.1 ∙ sym s.greatest.flow.within.each in
        let taken : s.before ≡ take n (vec_items v) = sym (front_taken s.before (vec_items row) (vec_items v) r.1 n long) in
        let fits = ltb-false (length (vec_items row)) (size w) ok.0 in
        let sides = by_flow w (here i).0.wired s.before s.greatest in
        record {
          each = sym ok.1;
          greatest = subst (λ (f : List ℕ). Greatest w f) taken s.greatest;
          near = subst (λ (f : List ℕ). Reached w f w.pump (report_of w).near) taken sides.reached;
          far = subst (λ (f : List ℕ). Apart w f w.outlet (report_of w).far) taken sides.apart;
          as_long = front_long s.before (vec_items row) (vec_items v) r.1 n long (omega (arith, fits, ok.1));
          beyond = front_dropped s.before (vec_items row) (vec_items v) r.1 n long;
        }

    writes_sheet : (i n : ℕ) (space v : Vec ℕ Global) → Asks cs i (WriteSheet space) → Tells told i (Sheet n v) → WritesSheet (network_at most room cs i) (vec_items space) n (vec_items v)
    writes_sheet i n space v asks e =
        let w = network_at most room cs i in
        let s = step i (Sheet n v) e in
        let r = written (requested i (WriteSheet space) (Sheet n v) asks s) in
        let ok = not_refused (ltb (length (vec_items space)) (length (sheet_of w))) LittleSpace (length (sheet_of w)) n r.0 in
        let long : n ≡ length (sheet_of w) = sym ok.1 in
        let taken : sheet_of w ≡ take n (vec_items v) = sym (front_taken (sheet_of w) (vec_items space) (vec_items v) r.1 n long) in
        let fits = ltb-false (length (vec_items space)) (length (sheet_of w)) ok.0 in
        record {
          loads = λ bound places more few within l. ap (λ (t : List ℕ). loading bound places (t ++ more)) (sym taken) ∙ sheet_loads bound within w (here i).0 few places more l ∙ ap (λ (m : ℕ). Ok (w, m)) ok.1;
          only = λ bound places text m within q. let o = only_sheet bound within places text w m q in (o.0 ∙ ok.1, o.1 ∙ taken);
          as_long = front_long (sheet_of w) (vec_items space) (vec_items v) r.1 n long (omega (arith, fits, ok.1));
          beyond = front_dropped (sheet_of w) (vec_items space) (vec_items v) r.1 n long;
        }

    pub faithful : Faithful most manner good start extended room cs told
    faithful = record {
      begun = b;
      each = step;
      few = omega (arith, told_each b.run, length-take (length told) cs);
      sound = here;
      refusals = refusal_leaves;
      changes = change_is;
      reports = reports_cuts;
      equal = λ i j r s e d. same_cuts (network_at most room cs i) (network_at most room cs j) (here i).0.wired (here j).0.wired r s (report_is i r e) (report_is j s d);
      governing = governs_so;
      flows = reads_flow;
      sheets = writes_sheet;
      rows = λ i e row v asks t. not_read (requested i (ReadFlow row) (FlowRefused e v) asks (step i (FlowRefused e v) t));
      spaces = λ i e space v asks t. not_written (requested i (WriteSheet space) (SheetRefused e v) asks (step i (SheetRefused e v) t));
    }

-- the calls that a new engine was begun with
pub faithful_run : {Λ : Type 0} (most : ℕ) (manner : Manner) (good : Λ → Λ → Type 0) (start : Λ) (extended : Λ → ℕ → Λ) (room : ℕ) (w : Network) (f : List ℕ) (cs : List Call) (told : List Answer)
    → (2 ≤ most) × (most ≤ 64) → w ≡ bare → Greatest w f → Begun most manner good start extended room w f cs told → Faithful most manner good start extended room cs told
faithful_run most manner good start extended room w f cs told sized e g b =
    let none : f ≡ [] = nil_from_length f (g.flow.within.each ∙ ap size e) in
    faithful most manner good start extended room sized.0 sized.1 cs told
    (subst (λ (x : List ℕ). Begun most manner good start extended room bare x cs told) none (subst (λ (x : Network). Begun most manner good start extended room x f cs told) e b))

-- the reports of two runs
pub equal_reports_lem : {Λ Λ' : Type 0} (most : ℕ) (manner : Manner) (good : Λ → Λ → Type 0) (start : Λ) (extended : Λ → ℕ → Λ) (room : ℕ) (cs : List Call) (told : List Answer)
    (most' : ℕ) (manner' : Manner) (good' : Λ' → Λ' → Type 0) (start' : Λ') (extended' : Λ' → ℕ → Λ') (room' : ℕ) (ds : List Call) (told' : List Answer)
    → (2 ≤ most) × (most ≤ 64) → (2 ≤ most') × (most' ≤ 64) → Faithful most manner good start extended room cs told → Faithful most' manner' good' start' extended' room' ds told'
    → EqualReports most room cs told most' room' ds told'
equal_reports_lem most manner good start extended room cs told most' manner' good' start' extended' room' ds told' sized sized' one other i j r s e d =
    same_cuts (network_at most room cs i) (network_at most' room' ds j) (one.sound i).0.wired (other.sound j).0.wired r s
    (report_is most manner good start extended room sized.0 sized.1 cs told one.begun i r e)
    (report_is most' manner' good' start' extended' room' sized'.0 sized'.1 ds told' other.begun j s d)
