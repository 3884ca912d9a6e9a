use Rattle.std.proofs.Common.{◌≡◌, ◌<◌, length, get_or, take, set, sym, ap, ◌∙◌, arith}
use Rattle.std.proofs.lemmas.List.{set-get_or}
use Rattle.network.specs.Network.{Pipe, Network}
use Rattle.network.specs.Pipes.{pipe_of, network_of, flow_of}
use Rattle.network.specs.Residual.{pipe, size}
use Rattle.network.proofs.TableFacts.{table_size}
use Rattle.paths.proofs.Tables.{read_row, pipe_is, carried_is}
use Rattle.formats.specs.Letters.{setting_of}
use Rattle.augmenting.specs.Settings.{valve_by}
use Rattle.augmenting.proofs.Valves.{next_pipe_in, next_set, set_count}
use Rattle.augmenting.proofs.rows.set_valves.Goals as goal

pub loop-k-preserved : goal.loop-k-preserved
loop-k-preserved c =
    let t = c.loop-k.table in
    let k = c.loop-k.k in
    let w = network_of c.args.table.now in
    let bs = c.args.letters.now in
    let inside : c.loop-k.k < c.loop-k.table.count = omega (arith, set_count c.loop-k.table c.args.table.now (take c.loop-k.k c.args.letters.now) c.loop-k.invariant.0) in
    let lettered : c.loop-k.k < length c.args.letters.now = omega (arith, c.requires.long) in
    let piped : c.loop-k.k < size (network_of c.args.table.now) = omega (arith, table_size c.args.table.now) in
    let same : pipe_of (get_or c.loop-k.table.rows c.loop-k.k read_row) ≡ pipe (network_of c.args.table.now) c.loop-k.k =
    sym (pipe_is t k inside) ∙ ap (λ (u : Network). pipe u k) c.loop-k.invariant.0 ∙ next_pipe_in w bs k lettered piped in (
      c.change_row.ensures.network
          ∙ next_set w bs k lettered piped (network_of t) c.loop-k.invariant.0 _ c.valve_after.result (ap (λ (p : Pipe). p.limit) same) (c.valve_after.ensures ∙ ap (λ (p : Pipe). valve_by (setting_of (get_or bs k 0)) p.valve) same),
      c.change_row.ensures.flow ∙ ap (set (flow_of t) k) (sym (carried_is t k inside)) ∙ set-get_or (flow_of t) k 0 ∙ c.loop-k.invariant.1,
    )
