use Rattle.std.proofs.Common.{get_or, sym, refl, ◌∙◌, arith}
use Rattle.network.specs.Pipes.{network_of, flow_of}
use Rattle.network.proofs.TableFacts.{table_size}
use Rattle.formats.specs.Letters.{setting_of}
use Rattle.interface.specs.Works.{none_closed}
use Rattle.augmenting.proofs.Closing.{closes_same, closings_more}
use Rattle.augmenting.proofs.greatest_flow.GreatestFlow.close_marked.Goals as goal

pub loop-k-init : goal.loop-k-init
loop-k-init g c = (refl, none_closed, omega arith, refl, refl)

pub loop-k-preserved : goal.loop-k-preserved
loop-k-preserved g c =
    let t = c.args.self.now.table.now in
    let u = c.loop-k.self.table.now in
    let v = c.close_by-count.new.self.table.now in
    let k = c.loop-k.k in
    let o = setting_of (get_or c.args.letters.now k 0) in
    let by = c.close_by-count.ensures.closes in
    let same = closes_same (network_of u) (flow_of u) k o (network_of v) c.close_by-count.result (flow_of v) by in (
      sym (table_size v) ∙ same.1 ∙ table_size u ∙ c.loop-k.invariant.0,
      closings_more (network_of t) (flow_of t) c.args.letters.now k (network_of u) c.loop-k.count (flow_of u) c.loop-k.invariant.1 (network_of v) c.close_by-count.result (flow_of v) by,
      omega (arith, c.close_by-count.ensures.few, c.loop-k.invariant.2),
      c.close_by-count.ensures.same_table ∙ c.loop-k.invariant.3,
      c.close_by-count.ensures.same_labels ∙ c.loop-k.invariant.4,
    )
