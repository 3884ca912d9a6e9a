use Rattle.std.proofs.Common.{◌<◌, sym, ◌∙◌, arith}
use Rattle.std.proofs.lemmas.Nat.{one_shl}
use Rattle.network.specs.Pipes.{network_of, flow_of}
use Rattle.augmenting.proofs.Closures.{ends_in, spread_none, crosses, stays_light, stays_out}
use Rattle.augmenting.proofs.survey.cross.Goals as goal
use Rattle.augmenting.proofs.survey.cross.Goals.{else-weight-gt0-via-then-weight-gt0+else-holds, else-weight-gt0-via-else-weight-gt0}

pub returns-then-holds : goal.returns-then-holds
returns-then-holds c =
    let t = c.args.table.now in
    let e = ends_in t c.args.sense c.args.step c.requires in
    let m = t.most in
    let l : c.near_and_far-near.result.1 < 64 = omega (arith, e.1, c.near_and_far-near.ensures.far) in
    let r = crosses t c.args.sense c.args.step c.requires c.args.seen c.near_and_far-near.result.0 c.weight_of-weight.result c.near_and_far-near.ensures.near c.weight_of-weight.ensures
    c.near_and_far-near.result.1 _ c.near_and_far-near.ensures.far (one_shl c.near_and_far-near.result.1 64 l) c.if-weight-gt0.true (sym c.if-holds.ensures) in
    record { spread = r.0; crossed = r.1 }

pub returns-else-weight-gt0 : goal.returns-else-weight-gt0
returns-else-weight-gt0 c =
    let t = c.args.table.now in
    record {
      spread = spread_none c.args.sense (network_of t) (flow_of t) c.args.seen;
      crossed = elim c.else-weight-gt0.branch [
        | else-weight-gt0-via-then-weight-gt0+else-holds w ↦ stays_out t c.args.sense c.args.step c.requires c.args.seen c.near_and_far-near.result.0 c.weight_of-weight.result c.near_and_far-near.ensures.near c.weight_of-weight.ensures (sym w.holds.ensures ∙ w.if-holds.false)
        | else-weight-gt0-via-else-weight-gt0 w ↦ stays_light t c.args.sense c.args.step c.requires c.args.seen c.near_and_far-near.result.0 c.weight_of-weight.result c.near_and_far-near.ensures.near c.weight_of-weight.ensures w.if-weight-gt0.false
      ];
    }
