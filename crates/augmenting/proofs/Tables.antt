-- What a table's own rules say of its flow.
use Rattle.std.proofs.Common.{ℕ, ◌<◌, ◌≤◌, get_or, subst, arith}
use Rattle.std.proofs.lemmas.List.{get_or_default}
use Rattle.network.specs.declared.valve.Valve.{Valve}
use Rattle.network.specs.declared.valve.Valve.TheVariants.{Open, Closed}
use Rattle.network.specs.declared.row.Row.{Row}
use Rattle.network.specs.declared.table.Table.{Table}
use Rattle.network.specs.Rows.{no_row, SoundFlow, Limited}
use Rattle.network.specs.Valves.{room}
use Rattle.paths.proofs.Tables.{read_row, sound_read}

flow_by : (r : Row) → Limited r → SoundFlow r → r.flow ≤ 60000
flow_by r l s = go r.valve s
  where
    go : (v : Valve) → r.flow ≤ room v r.limit → r.flow ≤ 60000
    go Open h = let a = l.1 in omega arith
    go Closed h = omega arith

-- no pipe carries more than the greatest limit
pub flow_few : (t : Table) (k : ℕ) → k < t.count → (get_or t.rows k read_row).flow ≤ 60000
flow_few t k h =
    let e = get_or_default t.rows k no_row read_row (let a = t.long in let b = t.held in omega arith) in
    flow_by (get_or t.rows k read_row) (subst (λ (r : Row). Limited r) e (t.limited k h)) (sound_read t k h)
