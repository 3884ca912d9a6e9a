use Rattle.std.proofs.Common.{◌≡◌, ◌-◌, min, length, take, ◌∙◌, arith, length-take}
use Rattle.runs.proofs.Asked.{at_places}
use Rattle.runs.proofs.run.answer_call.Goals as goal

pub returns : goal.returns
returns g c =
    let same : length (take (c.min-places.result - 0) c.args.work.now) ≡ min c.args.call.places (length c.args.work.now) = length-take (c.min-places.result - 0) c.args.work.now ∙ omega (arith, c.min-places.ensures) in
    at_places same c.ask.ensures
