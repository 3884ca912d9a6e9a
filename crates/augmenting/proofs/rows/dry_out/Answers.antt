use Rattle.std.proofs.Common.{ℕ, ◌<◌, List, length, refl, ap, ◌∙◌, inl, inr, arith, get_or-set_other, get_or-set_same}
use Rattle.std.proofs.lemmas.Bool.{cases_eq}
use Rattle.network.specs.Flows.{dry}
use Rattle.network.specs.Pipes.{flow_of}
use Rattle.network.specs.Residual.{carried}
use Rattle.network.proofs.TableFacts.{table_size, table_within}
use Rattle.augmenting.proofs.ChangedRows.{limited_read, own_row}
use Rattle.augmenting.proofs.Valves.{same_count, all_dry}
use Rattle.augmenting.proofs.rows.dry_out.Goals as goal

pub change_row-requires : goal.change_row-requires
change_row-requires c =
    let inside : c.loop-pipe.pipe < c.loop-pipe.table.count = omega (arith, same_count c.loop-pipe.table c.args.table.now c.loop-pipe.invariant.0) in
    let l = limited_read c.loop-pipe.table c.loop-pipe.pipe inside in
    record { inside = inside; some = l.0; few = l.1; within = omega arith }

pub loop-pipe-preserved : goal.loop-pipe-preserved
loop-pipe-preserved c =
    let t = c.loop-pipe.table in
    let k = c.loop-pipe.pipe in
    let inside : c.loop-pipe.pipe < c.loop-pipe.table.count = omega (arith, same_count c.loop-pipe.table c.args.table.now c.loop-pipe.invariant.0) in
    let here : c.loop-pipe.pipe < length (flow_of c.loop-pipe.table) = omega (arith, (table_within c.loop-pipe.table).each, table_size c.loop-pipe.table) in (
      c.change_row.ensures.network ∙ own_row t k inside _ _ refl refl ∙ c.loop-pipe.invariant.0,
      λ i h. ap (λ (f : List ℕ). carried f i) c.change_row.ensures.flow ∙ elim (cases_eq i c.loop-pipe.pipe) [
        | inl e ↦ rw e (get_or-set_same (flow_of c.loop-pipe.table) c.loop-pipe.pipe 0 0 here)
        | inr n ↦ get_or-set_other (flow_of t) k i 0 0 n ∙ c.loop-pipe.invariant.1 i (omega arith)
      ],
    )

pub returns : goal.returns
returns c =
    let t = c.loop-pipe.table in
    record {
      same = c.loop-pipe.invariant.0;
      dry = all_dry t (λ i h. c.loop-pipe.invariant.1 i (omega (arith, same_count t c.args.table.now c.loop-pipe.invariant.0))) ∙ ap dry c.loop-pipe.invariant.0;
    }
