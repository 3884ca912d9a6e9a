use Rattle.std.proofs.Common.{arith}
use Rattle.network.specs.declared.step.Direction.TheVariants.{Along, Against}
use Rattle.augmenting.proofs.Passing.{rows_passing, passing_fits}
use Rattle.augmenting.proofs.survey.value.Goals as goal

pub passing_at-out-requires : goal.passing_at-out-requires
passing_at-out-requires c = passing_fits c.args.table.now Along c.args.table.now.pump _ c.pipe_rows-rows.ensures

pub passing_at-back-requires : goal.passing_at-back-requires
passing_at-back-requires c = passing_fits c.args.table.now Against c.args.table.now.pump _ c.pipe_rows-rows.ensures

pub returns : goal.returns
returns c =
    let t = c.args.table.now in
    let out = rows_passing t Along t.pump _ c.pipe_rows-rows.ensures in
    let back = rows_passing t Against t.pump _ c.pipe_rows-rows.ensures in
    omega arith
