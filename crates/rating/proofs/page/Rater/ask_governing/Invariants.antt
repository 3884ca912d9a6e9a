use Rattle.std.proofs.Common.{◌≡◌, take}
use Rattle.rating.specs.Pages.{governing_row}
use Rattle.rating.proofs.page.Rater.ask_governing.Given as goal

abbrev pub invariant-loop-k : goal.invariant-loop-k
invariant-loop-k g l = record {
  row : take l.k l.marks ≡ governing_row (g.E.Engine.meaning l.initial.self.engine.now) l.k;
  same_engine : l.self.engine ≡ l.initial.self.engine;
  same_extent : l.self.extent ≡ l.initial.self.extent;
  same_work : l.self.work.ghost_name ≡ l.initial.self.work.ghost_name;
}
