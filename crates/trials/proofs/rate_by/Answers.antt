use Rattle.std.proofs.Common.{◌≡◌, ◌++◌, length, min, take, drop, replicate, Ok, Err, refl, ◌∙◌, arith}
use Rattle.std.proofs.lemmas.List.{length-take}
use Rattle.trials.specs.Rated.{Rated}
use Rattle.trials.proofs.Fronts.{page_front, same_front}
use Rattle.trials.proofs.rate_by.Goals as goal

pub returns : goal.returns
returns g c =
    let most = g.E.Engine.MOST_JUNCTIONS in
    let task = c.args.task.now in
    let places = min task.places (length c.args.work.now) in
    let space = length c.args.space.now in
    let works = length (take c.min-places.result c.args.work.now) in
    let enough : works ≡ places = length-take c.min-places.result c.args.work.now ∙ omega (arith, c.min-places.ensures) in
    let blank : c.fill.new.self ≡ replicate space 126 = c.fill.ensures.after (λ _ e. e) in
    (elim c.rate.result as (λ r. c.rate.result ≡ r → Rated most places task.text.now (min task.room space) space r (c.rate.new.page ++ drop c.min-room.result c.fill.new.self)) [
      | Ok n ↦ λ q.
          let h = rw q at c.rate.ensures in
          page_front most places task.room space works task.text.now c.fill.new.self c.rate.new.page c.min-room.result
          blank c.fill.ensures.len c.min-room.ensures n h.0 h.1 enough h.2 h.3 c.rate.auto.page h.5
      | Err e ↦ λ q.
          let h = rw q at c.rate.ensures in
          same_front most places task.room space works task.text.now c.fill.new.self c.rate.new.page c.min-room.result
          blank c.fill.ensures.len c.min-room.ensures e enough h.0 h.4
    ]) refl
