-- What a change of one row comes to, and that the flow stays one.
use Rattle.std.proofs.Common.{◌≡◌, ℕ, ◌<◌, ◌≤◌, List, set, sym, refl, ap, ◌∙◌, subst, arith}
use Rattle.std.proofs.lemmas.List.{set-get_or}
use Rattle.std.proofs.lemmas.Int.{ints}
use Rattle.network.specs.declared.pipe.Pipe as pipe-record
use Rattle.network.specs.declared.table.Table.{Table}
use Rattle.network.specs.declared.valve.Valve.{Valve}
use Rattle.network.specs.declared.valve.Valve.TheVariants.{Open, Closed}
use Rattle.network.specs.Changes.{with_pipe, with_limit, with_valve, with_pipe_limit}
use Rattle.network.specs.Flows.{Within, Flow, dry, Greatest, outflow, inflow}
use Rattle.network.specs.Network.{Pipe, Network, Wired}
use Rattle.network.specs.Pipes.{network_of, flow_of}
use Rattle.network.specs.Residual.{pipe, size, carried}
use Rattle.network.specs.Valves.{room}
use Rattle.network.proofs.Changes.{with_outflow, with_inflow}
use Rattle.network.proofs.Greatest.{greatest_value}
use Rattle.network.proofs.Repair.{change_flow}
use Rattle.network.proofs.TableFacts.{table_size, table_wired, table_within}
use Rattle.interface.specs.Augmentations.{Fills}
use Rattle.interface.specs.Verdicts.{patterned}
use Rattle.interface.specs.Works.{loaded, limited, Manner, warm, cold, Works}
use Rattle.engines.specs.Records.{StandsFor}
use Rattle.engines.proofs.Marked.{set_outflow, set_inflow, set_flow}

module _ {Λ : Type 0} {good : Λ → Λ → Type 0} {start : Λ} {extended : Λ → ℕ → Λ} where
  pub fills_as : {w u : Network} {f g h : List ℕ} {n : ℕ} → w ≡ u → f ≡ g → Fills w good start extended f n h → Fills u good start extended g n h
  fills_as {w} {u} {f} {g} {h} {n} e q fills = subst (λ (x : List ℕ). Fills u good start extended x n h) q (subst (λ (x : Network). Fills x good start extended f n h) e fills)

  -- in either manner a network that is loaded is filled from dry pipes
  pub works_loaded : (m : Manner) (w : Network) (f : List ℕ) (u : Network) (n : ℕ) (g : List ℕ) → Fills u good start extended (dry u) n g → Works m good start extended w f (loaded u) n g
  works_loaded warm w f u n g h = h
  works_loaded cold w f u n g h = h

  -- a limit that the pipe's flow keeps
  pub works_limited : (w : Network) (f : List ℕ) (k l n : ℕ) (g : List ℕ) → carried f k ≤ l → Fills (with_pipe_limit w k l) good start extended f n g → Works warm good start extended w f (limited k l) n g
  works_limited w f k l n g more fills = (λ less. absurd (omega arith), λ _. fills)

-- where a pipe carries x, it may have any limit from x on
pub keeps_all : (v : Valve) (l x y : ℕ) → x ≤ room v l → x ≤ y → x ≤ room v y
keeps_all Open l x y h more = more
keeps_all Closed l x y h more = h

-- the flow on a network can be filled up: it is a flow, and brings no less than nothing
pub record Fillable (w : Network) (f : List ℕ) : Type 0 where
  pub flow : Flow w f
  pub forth : inflow w f w.pump ≤ outflow w f w.pump

pub fillable_as : (w u : Network) (f g : List ℕ) → w ≡ u → f ≡ g → Fillable u g → Fillable w f
fillable_as w u f g e q h = subst (λ (x : Network). Fillable x f) (sym e) (subst (λ (x : List ℕ). Fillable u x) (sym q) h)

pub greatest_forth : (w : Network) → Wired w → (f : List ℕ) → Greatest w f → inflow w f w.pump ≤ outflow w f w.pump
greatest_forth w wired f big = omega (arith, ints, greatest_value w wired f big)

module _ (t : Table) (k : ℕ) (p : pipe-record.Pipe) (s : StandsFor t k p) where
  inside : k < size (network_of t)
  inside = omega (arith, s.inside, table_size t)

  pub to_limit : (l : ℕ) → with_pipe (network_of t) k (with_valve (with_limit (pipe (network_of t) k) l) p.valve) ≡ with_pipe_limit (network_of t) k l
  to_limit l = ap (λ (v : Valve). with_pipe (network_of t) k (with_valve (with_limit (pipe (network_of t) k) l) v)) (ap (λ (q : Pipe). q.valve) s.pipe_is)

  pub own_flow : set (flow_of t) k p.flow ≡ flow_of t
  own_flow = ap (set (flow_of t) k) s.flow_is ∙ set-get_or (flow_of t) k 0

  -- a pipe that may still carry what it carries
  pub fillable_with : Greatest (network_of t) (flow_of t) → (l : ℕ) (v : Valve) → p.flow ≤ room v l → (u : Table)
      → network_of u ≡ with_pipe (network_of t) k (with_valve (with_limit (pipe (network_of t) k) l) v) → flow_of u ≡ set (flow_of t) k p.flow → Fillable (network_of u) (flow_of u)
  fillable_with big l v h u e q =
      let w = network_of t in
      let now = with_valve (with_limit (pipe (network_of t) k) l) v in
      fillable_as (network_of u) (with_pipe w k now) (flow_of u) (flow_of t) e (q ∙ own_flow) (record {
        flow = change_flow w (table_wired t) k inside now refl refl (flow_of t) big.flow (omega (arith, h, s.flow_is));
        forth = omega (arith, greatest_forth w (table_wired t) (flow_of t) big, with_outflow w k inside now refl refl (flow_of t) w.pump, with_inflow w k inside now refl refl (flow_of t) w.pump);
      })

-- valves set by letters, the closed pipes dry
pub fillable_set : (t u : Table) (bs : List ℕ) → Greatest (network_of t) (flow_of t) → network_of u ≡ patterned (network_of t) bs → flow_of u ≡ flow_of t → Fillable (network_of u) (flow_of u)
fillable_set t u bs big e q =
    let w = network_of t in
    let f = flow_of t in
    let within : Within (patterned (network_of t) bs) (flow_of t) = subst (λ (x : List ℕ). Within (patterned w bs) x) q (subst (λ (x : Network). Within x (flow_of u)) e (table_within u)) in
    fillable_as (network_of u) (patterned w bs) (flow_of u) f e q (record {
      flow = set_flow w bs f big.flow within;
      forth = omega (arith, greatest_forth w (table_wired t) f big, set_outflow w bs f w.pump, set_inflow w bs f w.pump);
    })
