use Rattle.std.proofs.Common.{◌≡◌, ℕ, ◌*◌, ◌%◌, ◌^◌, ◌<◌, true, sym, subst, arith}
use Rattle.std.proofs.lemmas.Nat.{one_shl, pow_below}
use Rattle.network.specs.Cuts.{has}
use Rattle.network.specs.Pipes.{network_of, flow_of}
use Rattle.network.specs.declared.step.Step.{Step}
use Rattle.network.proofs.Words.{has_power}
use Rattle.augmenting.specs.Closures.{From, Crossed}
use Rattle.augmenting.proofs.Closures.{from_start, closure_is}
use Rattle.augmenting.proofs.survey.reached.Goals as goal

pub loop-seen-init : goal.loop-seen-init
loop-seen-init c =
    let t = c.args.table.now in
    let m = t.most in
    let e : 1 * 2 ^ c.args.start % 2 ^ 64 ≡ 2 ^ c.args.start = one_shl c.args.start 64 (omega (arith, c.requires)) in
    subst (λ (s : ℕ). (s < 2 ^ t.junctions) × (has s c.args.start ≡ true) × From c.args.sense (network_of t) (flow_of t) c.args.start s) (sym e) (
      pow_below c.args.start t.junctions c.requires,
      has_power c.args.start,
      from_start c.args.sense (network_of t) (flow_of t) c.args.start,
    )

pub returns-then-grown-seen : goal.returns-then-grown-seen
returns-then-grown-seen c =
    let t = c.args.table.now in
    let i = c.loop-seen.invariant in
    closure_is c.args.sense (network_of t) (flow_of t) c.args.start c.loop-seen.seen i.0 i.1 i.2
    (subst (λ (s : ℕ). (st : Step) → Crossed c.args.sense (network_of t) (flow_of t) c.loop-seen.seen s st) c.if-grown-seen.true c.round-grown.ensures.crossed)
