use Rattle.runs.proofs.Agreed.{answers_agree}
use Rattle.runs.proofs.Told.{equal_reports_lem}
use Rattle.runs.proofs.run.run_two.Goals as goal

pub returns : goal.returns
returns g c = record {
  one = c.run-one.ensures.faithful;
  other = c.run-other.ensures.faithful;
  equal = equal_reports_lem _ _ _ _ _ _ _ _ _ _ _ _ _ _ _ _ g.met.E.Engine.sized g.met.F.Engine.sized c.run-one.ensures.faithful c.run-other.ensures.faithful;
  agree = answers_agree _ _ _ _ _ _ _ _ _ _ _ _ _ _ _ _ g.met.E.Engine.sized c.run-one.ensures.faithful c.run-other.ensures.faithful;
  whole = c.run-one.ensures.whole;
  other_whole = c.run-other.ensures.whole;
  short = c.run-one.ensures.short;
  other_short = c.run-other.ensures.short;
  room = c.run-one.ensures.room;
  other_room = c.run-other.ensures.room;
}
