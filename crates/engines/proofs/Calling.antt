-- What a call's verdict comes to.
use Rattle.std.proofs.Common.{◌≡◌, ℕ, ◌-◌, ◌<◌, ◌≤◌, ◌≢◌, Bool, true, false, cond, ◌&&◌, ltb, leb, ◌⊎◌, List, length, get_or, drop, Some, None, Option, Ok, Err, Result, MatchOption, sym, refl, ap, ◌∙◌, inl, inr, arith}
use Rattle.std.proofs.lemmas.List.{length-drop}
use Rattle.std.proofs.lemmas.Bool.{cases_lt}
use Rattle.std.proofs.lemmas.Bool.Decides.{nat_tests}
use Rattle.std.specs.Option.{ok_or}
use Rattle.network.specs.declared.pipe.Pipe as pipe-record
use Rattle.network.specs.declared.table.Table.{Table}
use Rattle.network.specs.declared.valve.Valve.{Valve}
use Rattle.network.specs.declared.valve.Valve.TheVariants.{Open, Closed}
use Rattle.network.specs.Changes as changes
use Rattle.network.specs.Governing.{is_open}
use Rattle.network.specs.Network.{Pipe, Network}
use Rattle.network.specs.Pipes.{record_pipe, network_of, flow_of}
use Rattle.network.specs.Residual.{pipe, size, carried}
use Rattle.network.specs.Rows.{no_row}
use Rattle.network.proofs.TableFacts.{table_size, table_pipe}
use Rattle.formats.specs.declared.refusal.Refusal.{Refusal}
use Rattle.formats.specs.declared.refusal.Refusal.TheVariants.{OutOfRange, NoSuchPipe, FewPlaces, AlreadyOpen, AlreadyClosed}
use Rattle.formats.specs.Sheets.{and_then, sheet_in}
use Rattle.interface.specs.Verdicts.{with_places, with_number, loading, opening, closing, limiting}
use Rattle.engines.specs.Admissions.{admitting, Numbered, Standing}
use Rattle.engines.specs.Records.{StandsFor}

-- with places enough
placed : {A : Type 0} (most places : ℕ) (r : Result A Refusal) → most ≤ places → with_places most places r ≡ r
placed {A} most places r h = ap (λ (b : Bool). cond {A = Result A Refusal} b (Err FewPlaces) r) (let e : ltb places most ≡ false = grind (arith, nat_tests) in e)

module _ (most places : ℕ) (enough : most ≤ places) where
  pub load_missed : (text : List ℕ) (e : Refusal) → sheet_in most 1 text ≡ Err e → loading most places text ≡ Err e
  load_missed text e m = placed most places _ enough ∙ ap (λ r. and_then r (λ r. Ok (r.0, length text - length r.1))) m

  pub load_done : (text : List ℕ) (w : Network) (at : ℕ) → at ≤ length text → sheet_in most 1 text ≡ Ok (w, drop at text) → loading most places text ≡ Ok (w, at)
  load_done text w at h m =
      placed most places _ enough ∙ ap (λ r. and_then r (λ r. Ok (r.0, length text - length r.1))) m
      ∙ ap (λ (n : ℕ). Ok (w, n)) (let e : length text - length (drop at text) ≡ at = omega (arith, length-drop at text) in e)

two_tests : {A : Type 0} (few inside : Bool) (r : Result A Refusal)
    → cond few (Err FewPlaces) (cond inside r (Err NoSuchPipe)) ≡ and_then (cond {A = Result (Unit {0}) Refusal} few (Err FewPlaces) (cond inside (Ok tt) (Err NoSuchPipe))) (λ _. r)
two_tests true inside r = refl
two_tests false true r = refl
two_tests false false r = refl

-- what a call comes to, once its places and its number are looked at
module _ (most places : ℕ) (w : Network) (k : ℕ) where
  by_number : {A : Type 0} (r : Result A Refusal) → with_places most places (with_number w k r) ≡ and_then (admitting most places w k) (λ _. r)
  by_number r = two_tests (ltb places most) (ltb k (size w)) r

  pub turned_away : {A : Type 0} (r : Result A Refusal) (e : Refusal) → admitting most places w k ≡ Err e → with_places most places (with_number w k r) ≡ Err e
  turned_away r e q = by_number r ∙ ap (λ x. and_then x (λ _. r)) q

  module _ (in_place : admitting most places w k ≡ Ok tt) where
    pub let_in : {A : Type 0} (r : Result A Refusal) → with_places most places (with_number w k r) ≡ r
    let_in r = by_number r ∙ ap (λ x. and_then x (λ _. r)) in_place

    to_open : (v : Valve) → (pipe w k).valve ≡ v → opening most places w k ≡ cond (is_open v) (Err AlreadyOpen) (Ok (changes.with_pipe_open w k))
    to_open v e = let_in _ ∙ ap (λ (x : Valve). cond {A = Result Network Refusal} (is_open x) (Err AlreadyOpen) (Ok (changes.with_pipe_open w k))) e

    to_close : (v : Valve) → (pipe w k).valve ≡ v → closing most places w k ≡ cond (is_open v) (Ok (changes.with_pipe_closed w k)) (Err AlreadyClosed)
    to_close v e = let_in _ ∙ ap (λ (x : Valve). cond {A = Result Network Refusal} (is_open x) (Ok (changes.with_pipe_closed w k)) (Err AlreadyClosed)) e

    pub limit_missed : (l : ℕ) → (1 ≤ l → l ≤ 60000 → ⊥) → limiting most places w k l ≡ Err (OutOfRange 0)
    limit_missed l h = let_in _ ∙ ap (λ (x : Bool). cond {A = Result Network Refusal} x (Ok (changes.with_pipe_limit w k l)) (Err (OutOfRange 0))) (out (cases_lt l 1) (cases_lt 60000 l))
      where
        out : (l < 1) ⊎ (1 ≤ l) → (60000 < l) ⊎ (l ≤ 60000) → (leb 1 l && leb l 60000) ≡ false
        out (inl a) b = grind (arith, nat_tests)
        out (inr a) (inl b) = grind (arith, nat_tests)
        out (inr a) (inr b) = absurd (h a b)

-- the calls that ask for a valve
module _ (places : ℕ) (t : Table) (k : ℕ) where
  pub opened : (r : Result pipe-record.Pipe Refusal) → Standing places t k Closed AlreadyOpen r
      → elim r as (λ _. Type 0) [
        | Ok p ↦ (opening 64 places (network_of t) k ≡ Ok (changes.with_pipe_open (network_of t) k)) × (64 ≤ places) × StandsFor t k p × (p.valve ≡ Closed)
        | Err e ↦ opening 64 places (network_of t) k ≡ Err e
      ]
  opened (Ok p) h = (to_open 64 places (network_of t) k h.0 Closed (sym (ap (λ (q : Pipe). q.valve) h.2.pipe_is) ∙ h.3), h.1, h.2, h.3)
  opened (Err e) (inl a) = turned_away 64 places (network_of t) k _ e a
  opened (Err e) (inr a) = opened_not (pipe (network_of t) k).valve refl a.1
    where
      opened_not : (v : Valve) → (pipe (network_of t) k).valve ≡ v → v ≢ Closed → opening 64 places (network_of t) k ≡ Err e
      opened_not Open q n = to_open 64 places (network_of t) k a.0 Open q ∙ ap (λ (x : Refusal). Err x) (sym a.2)
      opened_not Closed q n = absurd (n refl)

  pub closed : (r : Result pipe-record.Pipe Refusal) → Standing places t k Open AlreadyClosed r
      → elim r as (λ _. Type 0) [
        | Ok p ↦ (closing 64 places (network_of t) k ≡ Ok (changes.with_pipe_closed (network_of t) k)) × (64 ≤ places) × StandsFor t k p × (p.valve ≡ Open)
        | Err e ↦ closing 64 places (network_of t) k ≡ Err e
      ]
  closed (Ok p) h = (to_close 64 places (network_of t) k h.0 Open (sym (ap (λ (q : Pipe). q.valve) h.2.pipe_is) ∙ h.3), h.1, h.2, h.3)
  closed (Err e) (inl a) = turned_away 64 places (network_of t) k _ e a
  closed (Err e) (inr a) = closed_not (pipe (network_of t) k).valve refl a.1
    where
      closed_not : (v : Valve) → (pipe (network_of t) k).valve ≡ v → v ≢ Open → closing 64 places (network_of t) k ≡ Err e
      closed_not Closed q n = to_close 64 places (network_of t) k a.0 Closed q ∙ ap (λ (x : Refusal). Err x) (sym a.2)
      closed_not Open q n = absurd (n refl)

-- the record that a table hands out of pipe k
pub stands : (t : Table) (k : ℕ) (p : pipe-record.Pipe) → (k < t.count) × (record_pipe p ≡ pipe (network_of t) k) × (p.flow ≡ carried (flow_of t) k) → StandsFor t k p
stands t k p h =
    let here = t.limited k h.0 in
    let same : p.limit ≡ (get_or t.rows k no_row).limit = ap (λ (q : Pipe). q.limit) (h.1 ∙ table_pipe t k h.0) in
    record { inside = h.0; some = omega (arith, here.0); few = omega (arith, here.1); pipe_is = h.1; flow_is = h.2 }

-- a pipe that is looked up
pub numbered : (places : ℕ) (t : Table) (k : ℕ) → 64 ≤ places → (o : Option pipe-record.Pipe)
    → MatchOption o (t.count ≤ k) (λ p. (k < t.count) × (record_pipe p ≡ pipe (network_of t) k) × (p.flow ≡ carried (flow_of t) k)) → Numbered places t k (ok_or o NoSuchPipe)
numbered places t k enough None past = grind (arith, nat_tests, table_size)
numbered places t k enough (Some p) h = (grind (arith, nat_tests, table_size), enough, stands t k p h)
