use Rattle.std.proofs.Common.{arith}
use Rattle.runs.proofs.Told.{faithful_run}
use Rattle.runs.proofs.run.run.Goals as goal

pub returns : goal.returns
returns g c = record {
  faithful = faithful_run _ _ _ _ _ _ _ _ _ _ g.met.E.Engine.sized c.new-engine.ensures (g.met.E.FlowEngine.greatest c.new-engine.result) c.answer_calls.ensures.begun;
  whole = c.answer_calls.ensures.whole;
  short = c.answer_calls.ensures.short;
  room = λ l. c.answer_calls.ensures.room (omega (arith, l, c.clear.ensures.capacity));
}
