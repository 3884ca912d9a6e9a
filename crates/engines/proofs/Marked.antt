-- Pipes marked by letters: closed first, then all valves set.
use Rattle.std.proofs.Common.{◌≡◌, ℕ, zero, suc, ◌<◌, eqb, List, [], ◌∷◌, length, get_or, set, Some, None, Option, sym, refl, ap, ◌∙◌, subst, inl, inr, arith, length-set, get_or-set_other, get_or-set_same}
use Rattle.std.proofs.lemmas.List.{get_or_past}
use Rattle.std.proofs.lemmas.Bool.{cases_eq, cases_lt}
use Rattle.network.specs.declared.table.Table.{Table}
use Rattle.network.specs.declared.valve.Valve as valve
use Rattle.network.specs.declared.valve.Valve.{Valve}
use Rattle.network.specs.Changes.{with_valve}
use Rattle.network.specs.Flows.{outflow, inflow, Within, Flow}
use Rattle.network.specs.Network.{Pipe, Network}
use Rattle.network.specs.Pipes.{network_of, flow_of}
use Rattle.network.specs.Residual.{nowhere, pipe, size, carried}
use Rattle.network.specs.Sums.{total, only}
use Rattle.network.specs.Valves.{room}
use Rattle.network.proofs.TableFacts.{table_size, table_within}
use Rattle.network.proofs.Totals.{total_eq}
use Rattle.formats.specs.declared.setting.Setting.{Setting}
use Rattle.formats.specs.declared.setting.Setting.TheVariants.{Closed}
use Rattle.formats.specs.Letters.{setting_of}
use Rattle.interface.specs.Verdicts.{set_by, each_set_by, patterned}
use Rattle.interface.specs.Works.{Closings, none_closed, one_closed, one_left}
use Rattle.augmenting.proofs.Valves.{lettered_length}

-- past the letters nothing is closed
no_letter : {A : Type 0} → setting_of 0 ≡ Some Closed → A
no_letter e = absurd (let z : ◌≡◌ {A = ℕ} 0 1 = cc in omega arith)

-- a pipe that a letter closes may as well be closed before
lettered_closed : (bs : List ℕ) (ps : List Pipe) (k : ℕ) → setting_of (get_or bs k 0) ≡ Some Closed → each_set_by bs (set ps k (with_valve (get_or ps k nowhere) valve.TheVariants.Closed)) ≡ each_set_by bs ps
lettered_closed [] ps k e = no_letter e
lettered_closed (b ∷ bs) [] k e = refl
lettered_closed (b ∷ bs) (p ∷ ps) zero e =
    ap (λ (q : Pipe). q ∷ each_set_by bs ps) (subst (λ (o : Option Setting). set_by o (with_valve p valve.TheVariants.Closed) ≡ set_by o p) (sym e) refl)
lettered_closed (b ∷ bs) (p ∷ ps) (suc k) e = ap (λ (qs : List Pipe). set_by (setting_of b) p ∷ qs) (lettered_closed bs ps k e)

set_end : (e : Pipe → ℕ) → ((o : Option Setting) (p : Pipe) → e (set_by o p) ≡ e p) → (bs : List ℕ) (ps : List Pipe) (i : ℕ) → e (get_or (each_set_by bs ps) i nowhere) ≡ e (get_or ps i nowhere)
set_end e same [] ps i = refl
set_end e same (b ∷ bs) [] i = refl
set_end e same (b ∷ bs) (p ∷ ps) zero = same (setting_of b) p
set_end e same (b ∷ bs) (p ∷ ps) (suc i) = set_end e same bs ps i

from_kept : (o : Option Setting) (p : Pipe) → (set_by o p).from ≡ p.from
from_kept None p = refl
from_kept (Some s) p = refl

to_kept : (o : Option Setting) (p : Pipe) → (set_by o p).to ≡ p.to
to_kept None p = refl
to_kept (Some s) p = refl

-- letters change no end of a pipe, so what passes a junction stays
module _ (w : Network) (bs : List ℕ) (g : List ℕ) (j : ℕ) where
  pub set_outflow : outflow (patterned w bs) g j ≡ outflow w g j
  set_outflow = ap (λ n. total n (λ i. only (eqb (pipe (patterned w bs) i).from j) (carried g i))) (lettered_length bs w.pipes)
      ∙ total_eq (size w) _ _ (λ i l. ap (λ x. only (eqb x j) (carried g i)) (set_end (λ p. p.from) from_kept bs w.pipes i))

  pub set_inflow : inflow (patterned w bs) g j ≡ inflow w g j
  set_inflow = ap (λ n. total n (λ i. only (eqb (pipe (patterned w bs) i).to j) (carried g i))) (lettered_length bs w.pipes)
      ∙ total_eq (size w) _ _ (λ i l. ap (λ x. only (eqb x j) (carried g i)) (set_end (λ p. p.to) to_kept bs w.pipes i))

-- with the pipes dry that are closed so, a flow stays a flow
pub set_flow : (w : Network) (bs : List ℕ) (g : List ℕ) → Flow w g → Within (patterned w bs) g → Flow (patterned w bs) g
set_flow w bs g flow within = record { within = within; conserves = λ j l p o. set_outflow w bs g j ∙ flow.conserves j l p o ∙ sym (set_inflow w bs g j) }

module _ {Λ : Type 0} {good : Λ → Λ → Type 0} {start : Λ} {extended : Λ → ℕ → Λ} (w : Network) (f : List ℕ) (bs : List ℕ) where
  pub shut_size : (k : ℕ) (u : Network) (n : ℕ) (g : List ℕ) → Closings good start extended w f bs k u n g → size u ≡ size w
  shut_size _ _ _ _ none_closed = refl
  shut_size _ _ _ _ (one_closed {k} {n} {m} {u} {g} {h} c e l) = length-set u.pipes k _ ∙ shut_size k u n g c
  shut_size _ _ _ _ (one_left {k} {n} {u} {g} c e) = shut_size k u n g c

  -- the valves after all letters are those of the network before any closing
  pub shut_set : (k : ℕ) (u : Network) (n : ℕ) (g : List ℕ) → Closings good start extended w f bs k u n g → patterned u bs ≡ patterned w bs
  shut_set _ _ _ _ none_closed = refl
  shut_set _ _ _ _ (one_closed {k} {n} {m} {u} {g} {h} c e l) =
      ap (λ (ps : List Pipe). record { junctions = u.junctions; pump = u.pump; outlet = u.outlet; pipes = ps }) (lettered_closed bs u.pipes k e) ∙ shut_set k u n g c
  shut_set _ _ _ _ (one_left {k} {n} {u} {g} c e) = shut_set k u n g c

  -- the pipes that letters close are closed
  pub shut_closed : (k : ℕ) (u : Network) (n : ℕ) (g : List ℕ) → Closings good start extended w f bs k u n g → (j : ℕ) → j < k → j < size w → setting_of (get_or bs j 0) ≡ Some Closed → (pipe u j).valve ≡ valve.TheVariants.Closed
  shut_closed _ _ _ _ none_closed j l i q = absurd (omega arith)
  shut_closed _ _ _ _ (one_closed {k} {n} {m} {u} {g} {h} c e l) j lt i q = elim (cases_eq j k) [
    | inl r ↦ rw r (ap (λ (p : Pipe). p.valve) (get_or-set_same u.pipes k (with_valve (pipe u k) valve.TheVariants.Closed) nowhere (omega (arith, shut_size k u n g c))))
    | inr d ↦ ap (λ (p : Pipe). p.valve) (get_or-set_other u.pipes k j (with_valve (pipe u k) valve.TheVariants.Closed) nowhere d) ∙ shut_closed k u n g c j (omega arith) i q
  ]
  shut_closed _ _ _ _ (one_left {k} {n} {u} {g} c e) j lt i q = elim (cases_eq j k) [
    | inl r ↦ absurd (e (subst (λ (x : ℕ). setting_of (get_or bs x 0) ≡ Some Closed) r q))
    | inr d ↦ shut_closed k u n g c j (omega arith) i q
  ]

  -- and so they are dry
  pub shut_dry : (u : Network) (n : ℕ) (g : List ℕ) → Closings good start extended w f bs (size w) u n g → Within u g → length bs ≡ size w → (j : ℕ) → setting_of (get_or bs j 0) ≡ Some Closed → carried g j ≡ 0
  shut_dry u n g c within long j q = elim (cases_lt j (size w)) [
    | inl l ↦ let few = within.limits j (omega (arith, shut_size (size w) u n g c)) in
        let none : room (pipe u j).valve (pipe u j).limit ≡ 0 = ap (λ (v : Valve). room v (pipe u j).limit) (shut_closed (size w) u n g c j l l q) in
        omega (arith, few, none)
    | inr m ↦ no_letter (sym (ap setting_of (get_or_past bs j 0 (omega arith))) ∙ q)
  ]

-- a table after the closings that letters ask of another
module _ {Λ : Type 0} {good : Λ → Λ → Type 0} {start : Λ} {extended : Λ → ℕ → Λ} (t u : Table) (bs : List ℕ) (n : ℕ)
    (c : Closings good start extended (network_of t) (flow_of t) bs t.count (network_of u) n (flow_of u)) where
  pub all_closings : Closings good start extended (network_of t) (flow_of t) bs (size (network_of t)) (network_of u) n (flow_of u)
  all_closings = subst (λ (k : ℕ). Closings good start extended (network_of t) (flow_of t) bs k (network_of u) n (flow_of u)) (sym (table_size t)) c

  pub closed_count : t.count ≡ u.count
  closed_count = sym (table_size t) ∙ sym (shut_size (network_of t) (flow_of t) bs _ (network_of u) n (flow_of u) all_closings) ∙ table_size u

  pub closed_dry : length bs ≡ t.count → (j : ℕ) → setting_of (get_or bs j 0) ≡ Some Closed → carried (flow_of u) j ≡ 0
  closed_dry long = shut_dry (network_of t) (flow_of t) bs (network_of u) n (flow_of u) all_closings (table_within u) (long ∙ sym (table_size t))

  pub closed_set : patterned (network_of u) bs ≡ patterned (network_of t) bs
  closed_set = shut_set (network_of t) (flow_of t) bs _ (network_of u) n (flow_of u) all_closings
