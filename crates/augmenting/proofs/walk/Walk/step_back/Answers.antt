use Rattle.std.proofs.Common.{◌≡◌, ℕ, ◌-◌, ◌<◌, ◌∷◌, sym, ap, ◌∙◌, subst, arith}
use Rattle.network.specs.Pipes.{network_of}
use Rattle.network.specs.Residual.{tail}
use Rattle.paths.proofs.Tables.{size_is, tail_read, joins_is}
use Rattle.augmenting.specs.Walks.{Stands, left}
use Rattle.augmenting.proofs.Chained.{left_more, step_inside, stands_back}
use Rattle.augmenting.proofs.walk.Walk.step_back.Goals as goal

pub offset_bounds-table-step : goal.offset_bounds-table-step
offset_bounds-table-step g c =
    let walk = c.args.self.now in
    let t = c.args.table.now in
    let h = step_inside (network_of t) walk c.requires (omega (arith, c.if-self-eq0.false)) c.index-self-self.result c.index-self-self.is c.in_ok-step.step (ap (λ l. l.via) c.index-self-self.is ∙ c.in_ok-step.was) in
    omega (arith, size_is c.args.table.now, c.args.table.now.held)

pub bounds-table-step : goal.bounds-table-step
bounds-table-step g c =
    let walk = c.args.self.now in
    let t = c.args.table.now in
    let h = step_inside (network_of t) walk c.requires (omega (arith, c.if-self-eq0.false)) c.index-self-self.result c.index-self-self.is c.in_ok-step.step (ap (λ l. l.via) c.index-self-self.is ∙ c.in_ok-step.was) in
    omega (arith, size_is c.args.table.now, c.args.table.now.held)

pub returns : goal.returns
returns g c =
    let walk = c.args.self.now in
    let t = c.args.table.now in
    let w = network_of t in
    let s = c.in_ok-step.step in
    let more : 0 < c.args.self.now.turns = omega (arith, c.if-self-eq0.false) in
    let step = ap (λ l. l.via) c.index-self-self.is ∙ c.in_ok-step.was in
    let inside : s.pipe < t.count = omega (arith, size_is t, step_inside w walk c.requires more c.index-self-self.result c.index-self-self.is s step) in
    let here : c.tail_of-self.result ≡ tail w s = tail_read t s inside _ c.tail_of-self.ensures in
    subst (λ (j : ℕ). (left w walk ≡ s ∷ left w (record walk { at = j; turns = walk.turns - 1 })) × Stands w (record walk { at = j; turns = walk.turns - 1 }) × (walk.turns - 1 < walk.turns)) (sym here) (
      left_more w walk c.requires more c.index-self-self.result c.index-self-self.is s step,
      stands_back w walk c.requires more c.index-self-self.result c.index-self-self.is s step (joins_is t s inside).0,
      omega (arith, more),
    )
