-- The network of a table is sound, and the flow on it keeps within the limits.
use Rattle.std.proofs.Common.{◌≡◌, ℕ, zero, suc, ◌<◌, ◌≤◌, Bool, false, not, ◌&&◌, List, [], ◌∷◌, map, length, get_or, take, set, Some, None, Decides, Option, sym, refl, ap, ◌∙◌, subst, arith, length-take, get_or-take, MatchOption}
use Rattle.std.proofs.ByRecursion.{All-from_get_or}
use Rattle.std.proofs.lemmas.List.{length-map, get_or_default, get_or-map, get_or_past, map-set}
use Rattle.network.specs.declared.report.Report.{Report}
use Rattle.network.specs.declared.row.Row.{Row}
use Rattle.network.specs.declared.table.Table.{Table}
use Rattle.network.specs.declared.valve.Valve.{Valve}
use Rattle.network.specs.Cuts.{has}
use Rattle.network.specs.Flows.{Within}
use Rattle.network.specs.Governing.{is_open, governing, Raises}
use Rattle.network.specs.Network.{Pipe, Joins, Limited, Wired, Sound}
use Rattle.network.specs.declared.pipe.Pipe as pipe-record
use Rattle.network.specs.Pipes.{record_pipe, same_row, pipe_of, network_of, flow_of}
use Rattle.network.specs.Reports.{report_of}
use Rattle.network.specs.Residual.{nowhere, pipe, size, carried}
use Rattle.network.specs.Rows.{no_row, SoundFlow}
use Rattle.network.proofs.Raising.{governs_raises}

take_set_in : {X : Type 0} (n : ℕ) (xs : List X) (k : ℕ) (y : X) → k < n → take n (set xs k y) ≡ set (take n xs) k y
take_set_in zero xs k y l = absurd (omega arith)
take_set_in (suc n) [] k y l = refl
take_set_in (suc n) (x ∷ xs) zero y l = refl
take_set_in (suc n) (x ∷ xs) (suc k) y l = ap (λ zs. x ∷ zs) (take_set_in n xs k y (omega arith))

-- one row of n changed, seen through f: the pipes, or the flows
pub rows_set : {Y : Type 0} (f : Row → Y) (rows : List Row) (n k : ℕ) (r : Row) → k < n → map f (take n (set rows k r)) ≡ set (map f (take n rows)) k (f r)
rows_set f rows n k r l = ap (map f) (take_set_in n rows k r l) ∙ map-set f (take n rows) k r

module _ (t : Table) where
  taken : length (take t.count t.rows) ≡ t.count
  taken = simp length-take (omega (arith, t.held, t.long))

  pub table_size : size (network_of t) ≡ t.count
  table_size = length-map (take t.count t.rows) pipe_of ∙ taken

  -- pipe k and what it carries, by row k
  pub table_pipe : (k : ℕ) → k < t.count → pipe (network_of t) k ≡ pipe_of (get_or t.rows k no_row)
  table_pipe k l =
      get_or-map pipe_of (take t.count t.rows) k no_row nowhere (omega (arith, taken))
      ∙ ap pipe_of (get_or-take t.count t.rows k no_row l)

  pub table_carried : (k : ℕ) → k < t.count → carried (flow_of t) k ≡ (get_or t.rows k no_row).flow
  table_carried k l =
      get_or-map (λ (r : Row). r.flow) (take t.count t.rows) k no_row 0 (omega (arith, taken))
      ∙ ap (λ (r : Row). r.flow) (get_or-take t.count t.rows k no_row l)

  pub table_wired : Wired (network_of t)
  table_wired = record {
    pump_in = t.pumped;
    outlet_in = t.drained;
    apart = t.apart;
    joins = All-from_get_or (Joins t.junctions) (network_of t).pipes nowhere (λ k l.
        let here = t.joined k (omega (arith, l, table_size)) in
        rw (table_pipe k (omega (arith, l, table_size))) (record { from_in = here.0; to_in = here.1; apart = here.2 }));
  }

  pub table_sound : Sound (network_of t)
  table_sound = record {
    wired = table_wired;
    two = t.two;
    most = t.most;
    held = omega (arith, table_size, t.held);
    limited = All-from_get_or Limited (network_of t).pipes nowhere (λ k l.
        let here = t.limited k (omega (arith, l, table_size)) in
        rw (table_pipe k (omega (arith, l, table_size))) (record { some = here.0; few = here.1 }));
  }

  pub table_within : Within (network_of t) (flow_of t)
  table_within = record {
    each = length-map (take t.count t.rows) (λ (r : Row). r.flow) ∙ sym (length-map (take t.count t.rows) pipe_of);
    limits = λ k l.
        let here = t.flowing k (omega (arith, l, table_size)) in
        rw (table_pipe k (omega (arith, l, table_size)), table_carried k (omega (arith, l, table_size))) here;
  }

  pub table_none : (k : ℕ) → t.count ≤ k → pipe (network_of t) k ≡ nowhere
  table_none k l = get_or_past (network_of t).pipes k nowhere (omega (arith, table_size))

  -- whether a pipe governs, by its record
  pub governing_record : (r : Report) (k : ℕ) (p : Pipe) (v : Valve) → p ≡ pipe (network_of t) k → p.valve ≡ v →
      governing (network_of t) r k ≡ (is_open v && (has r.near p.from && not (has r.far p.to)))
  governing_record r k p v e q =
      ap (λ x. is_open x.valve && (has r.near x.from && not (has r.far x.to))) (sym e)
      ∙ ap (λ u. is_open u && (has r.near p.from && not (has r.far p.to))) q

  pub governing_none : (r : Report) (k : ℕ) → t.count ≤ k → governing (network_of t) r k ≡ false
  governing_none r k l = ap (λ p. is_open p.valve && (has r.near p.from && not (has r.far p.to))) (table_none k l)

  pub raises_by : (r : Report) (k : ℕ) (b : Bool) → b ≡ governing (network_of t) r k → r ≡ report_of (network_of t) → Decides b (Raises (network_of t) k)
  raises_by r k b e q = rw (e, q) (governs_raises (network_of t) table_wired k)

  -- the record that a row gives, if the row is pipe k
  pub record_is : (k : ℕ) (d : Row) (o : Option pipe-record.Pipe) → k < t.count → MatchOption o (SoundFlow (get_or t.rows k d) → ⊥) (λ p. same_row p (get_or t.rows k d)) →
      MatchOption o (t.count ≤ k) (λ p. (k < t.count) × (record_pipe p ≡ pipe (network_of t) k) × (p.flow ≡ carried (flow_of t) k))
  record_is k d o l h = go o h
    where
      row_is : get_or t.rows k no_row ≡ get_or t.rows k d
      row_is = get_or_default t.rows k no_row d (omega (arith, t.held, t.long))

      go : (o : Option pipe-record.Pipe) → MatchOption o (SoundFlow (get_or t.rows k d) → ⊥) (λ p. same_row p (get_or t.rows k d)) →
          MatchOption o (t.count ≤ k) (λ p. (k < t.count) × (record_pipe p ≡ pipe (network_of t) k) × (p.flow ≡ carried (flow_of t) k))
      go None h = absurd (h (subst (λ (r : Row). SoundFlow r) row_is (t.flowing k l)))
      go (Some p) h = (
        l,
        (λ i. record { from = h.0 i; to = h.1 i; limit = h.2 i; valve = h.4 i }) ∙ sym (ap pipe_of row_is) ∙ sym (table_pipe k l),
        h.3 ∙ sym (ap (λ (r : Row). r.flow) row_is) ∙ sym (table_carried k l),
      )
