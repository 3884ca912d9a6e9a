-- Sheets read and written, flows read, as the verdicts say.
use Rattle.std.proofs.Common.{◌≡◌, ℕ, ◌+◌, ◌<◌, ◌≤◌, Bool, true, false, cond, ltb, List, map, length, get_or, take, drop, set, Ok, Err, Result, sym, ap, ◌∙◌, arith}
use Rattle.std.proofs.lemmas.List.{length-map, get_or-map, take_more, take_all, length-take-le}
use Rattle.std.proofs.lemmas.Bool.Decides.{nat_tests}
use Rattle.network.specs.declared.row.Row.{Row}
use Rattle.network.specs.declared.table.Table.{Table}
use Rattle.network.specs.Flows.{dry}
use Rattle.network.specs.Network.{Network}
use Rattle.network.specs.Pipes.{network_of, flow_of}
use Rattle.network.specs.Residual.{size}
use Rattle.network.specs.Rows.{Each, Dry}
use Rattle.network.proofs.TableFacts.{table_size, table_carried, table_within}
use Rattle.formats.specs.declared.refusal.Refusal.{Refusal}
use Rattle.formats.specs.declared.refusal.Refusal.TheVariants.{LittleSpace}
use Rattle.formats.specs.Sheets.{sheet_in}
use Rattle.formats.specs.Spaces.{put_at, Put}
use Rattle.formats.specs.Written.{sheet_of}
use Rattle.writing.proofs.Puts.{put_more}
use Rattle.paths.proofs.Tables.{read_row}
use Rattle.interface.specs.Verdicts.{loading, writing, reading}
use Rattle.augmenting.proofs.Valves.{all_dry}
use Rattle.engines.proofs.Calling.{load_missed, load_done}

dry_table : (t : Table) → Each Dry t.rows t.count → flow_of t ≡ dry (network_of t)
dry_table t h = all_dry t (λ i l. table_carried t i l ∙ h i l)

-- a sheet that was read
pub loaded : (text : List ℕ) (places : ℕ) → 64 ≤ places → (r : Result (Table × ℕ) Refusal)
    → elim r as (λ _. Type 0) [
      | Ok p ↦ (sheet_in 64 1 text ≡ Ok (network_of p.0, drop p.1 text)) × (p.1 ≤ length text) × (p.0.junctions ≤ 64) × Each Dry p.0.rows p.0.count
      | Err e ↦ sheet_in 64 1 text ≡ Err e
    ]
    → elim r as (λ _. Type 0) [
      | Ok p ↦ (loading 64 places text ≡ Ok (network_of p.0, p.1)) × (64 ≤ places) × (flow_of p.0 ≡ dry (network_of p.0))
      | Err e ↦ loading 64 places text ≡ Err e
    ]
loaded text places enough (Ok p) h = (load_done 64 places enough text (network_of p.0) p.1 h.1 h.0, enough, dry_table p.0 h.3)
loaded text places enough (Err e) h = load_missed 64 places enough text e h

-- n places of a space are wanted
fits : (space n : ℕ) → n ≤ space → cond {A = Result ℕ Refusal} (ltb space n) (Err LittleSpace) (Ok n) ≡ Ok n
fits space n h = ap (λ (b : Bool). cond {A = Result ℕ Refusal} b (Err LittleSpace) (Ok n)) (let e : ltb space n ≡ false = grind (arith, nat_tests) in e)

short : (space n : ℕ) → space < n → cond {A = Result ℕ Refusal} (ltb space n) (Err LittleSpace) (Ok n) ≡ Err LittleSpace
short space n h = ap (λ (b : Bool). cond {A = Result ℕ Refusal} b (Err LittleSpace) (Ok n)) (let e : ltb space n ≡ true = grind (arith, nat_tests) in e)

-- a sheet that was written
pub wrote : (w : Network) (before after : List ℕ) (r : Result ℕ Refusal) → Put 0 (sheet_of w) before r after
    → elim r as (λ _. Type 0) [
      | Ok n ↦ (writing (length before) w ≡ Ok n) × (after ≡ put_at 0 (sheet_of w) before)
      | Err e ↦ (writing (length before) w ≡ Err e) × (after ≡ before)
    ]
wrote w before after (Ok n) p = (
  fits (length before) (length (sheet_of w)) (omega (arith, p.0)) ∙ ap (λ (m : ℕ). Ok m) (let e : length (sheet_of w) ≡ n = omega (arith, p.1) in e),
  p.2,
)
wrote w before after (Err e) p = (short (length before) (length (sheet_of w)) (omega (arith, p.1)) ∙ ap (λ (x : Refusal). Err x) (sym p.0), p.2)

-- a flow that was read off the rows ps
module _ (ps : List Row) (row : List ℕ) where
  flows_long : length (map (λ (r : Row). r.flow) ps) ≡ length ps
  flows_long = length-map ps (λ (r : Row). r.flow)

  pub read_more : (k : ℕ) (now : List ℕ) → k < length ps → length ps ≤ length row → now ≡ put_at 0 (take k (map (λ (r : Row). r.flow) ps)) row
      → set now k (get_or ps k read_row).flow ≡ put_at 0 (take (k + 1) (map (λ (r : Row). r.flow) ps)) row
  read_more k now inside few e =
      let fs = map (λ (r : Row). r.flow) ps in
      let long : length (take k fs) ≡ k = length-take-le k fs (omega (arith, flows_long)) in
      (λ i. set (e i) k (sym (get_or-map (λ (r : Row). r.flow) ps k read_row 0 inside) i))
      ∙ put_more row 0 (omega arith) (take k fs) (get_or fs k 0) k (omega arith) (omega arith)
      ∙ ap (λ (f : List ℕ). put_at 0 f row) (sym (take_more fs k 0 (omega (arith, flows_long))))

  module _ (t : Table) (e : ps ≡ take t.count t.rows) where
    pub rows_long : length ps ≡ t.count
    rows_long = sym flows_long ∙ ap (λ (rs : List Row). length (map (λ (r : Row). r.flow) rs)) e ∙ (table_within t).each ∙ table_size t

    pub read_fits : length ps ≤ length row → reading (length row) (network_of t) ≡ Ok (length ps)
    read_fits h = fits (length row) (size (network_of t)) (omega (arith, table_size t, rows_long)) ∙ ap (λ (n : ℕ). Ok n) (table_size t ∙ sym rows_long)

    pub read_short : length row < length ps → reading (length row) (network_of t) ≡ Err LittleSpace
    read_short h = short (length row) (size (network_of t)) (omega (arith, table_size t, rows_long))

    pub read_all : (k : ℕ) (now : List ℕ) → length ps ≤ k → now ≡ put_at 0 (take k (map (λ (r : Row). r.flow) ps)) row → now ≡ put_at 0 (flow_of t) row
    read_all k now h q =
        q ∙ ap (λ (f : List ℕ). put_at 0 f row) (take_all k (map (λ (r : Row). r.flow) ps) (omega (arith, flows_long)))
        ∙ ap (λ (rs : List Row). put_at 0 (map (λ (r : Row). r.flow) rs) row) e
