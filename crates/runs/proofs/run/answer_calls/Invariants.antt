use Rattle.std.proofs.Common.{◌≡◌, ◌≤◌, ◌++◌, length, vec_items}
use Rattle.std.specs.Vec.{vec_capacity}
use Rattle.std.specs.Vec.Iter.{into_iter_items}
use Rattle.runs.specs.Runs.{Run}
use Rattle.runs.proofs.run.answer_calls.Given as goal

abbrev pub invariant-loop-call : goal.invariant-loop-call
invariant-loop-call g l = record {
  in_order : l.yielded ++ into_iter_items l.call-iterator ≡ vec_items l.fn.calls;
  each : length (vec_items l.answers) ≡ length l.yielded;
  room : vec_capacity l.initial.answers ≤ vec_capacity l.answers;
  run : Run g.E.Engine.MOST_JUNCTIONS g.E.FlowEngine.manner g.E.Metric.PathMetric.good g.E.Metric.PathMetric.start g.E.Metric.PathMetric.extended (length l.initial.work) (g.E.Engine.meaning l.initial.engine)
      (g.E.FlowEngine.kept l.initial.engine) l.yielded (vec_items l.answers) (g.E.Engine.meaning l.engine) (g.E.FlowEngine.kept l.engine);
}
