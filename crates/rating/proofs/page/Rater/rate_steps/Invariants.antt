use Rattle.std.proofs.Common.{◌≡◌, ◌*◌, ◌≤◌, map, take}
use Rattle.formats.specs.Schedules.{timed}
use Rattle.rating.proofs.Stepping.{Rated}
use Rattle.rating.proofs.page.Rater.rate_steps.Given as goal

abbrev pub invariant-loop-k : goal.invariant-loop-k
invariant-loop-k g l = record {
  rated : Rated (g.E.Engine.meaning l.initial.self.engine.now) l.initial.page (map timed (take l.k l.steps)) (g.E.Engine.meaning l.self.engine.now) l.page l.total;
  small : l.total ≤ l.k * 44236800000;
  same_extent : l.self.extent ≡ l.initial.self.extent;
  same_engine : l.self.engine.ghost_name ≡ l.initial.self.engine.ghost_name;
  same_work : l.self.work.ghost_name ≡ l.initial.self.work.ghost_name;
}
