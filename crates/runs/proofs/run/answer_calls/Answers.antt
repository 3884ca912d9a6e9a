use Rattle.std.proofs.Common.{◌≡◌, [], ◌∷◌, ◌++◌, length, is_ok, vec_items, refl, ap, sym, ◌∙◌, arith, rules, append_assoc}
use Rattle.std.proofs.ResultArms.{chosen}
use Rattle.std.proofs.lemmas.List.{length_push}
use Rattle.std.specs.Vec.Iter.{into_iter_items}
use Rattle.runs.proofs.Chained.{begins, goes_on, begun}
use Rattle.runs.proofs.run.answer_calls.Goals as goal

pub loop-call-init : goal.loop-call-init
loop-call-init g c = record {
  in_order = search rules;
  each = ap length c.requires;
  room = omega arith;
  run = begins _ _ _ _ _ _ _ _ _ c.requires;
}

pub loop-call-preserved : goal.loop-call-preserved
loop-call-preserved g c =
    let before = c.loop-call.invariant in
    let pushed : vec_items c.push.new.self ≡ vec_items c.loop-call.answers ++ c.answer_call-answer.result ∷ [] = chosen _ _ _ _ c.push.ensures.items (ap is_ok c.in_ok-push.was) in
    let next : into_iter_items c.loop-call.call-iterator ≡ c.in-Some.call ∷ into_iter_items c.next.new.self = search rules in
    record {
      in_order = append_assoc c.loop-call.yielded (c.in-Some.call ∷ []) (into_iter_items c.next.new.self) ∙ ap (λ rest. c.loop-call.yielded ++ rest) (sym next) ∙ before.in_order;
      each = ap length pushed ∙ length_push (vec_items c.loop-call.answers) c.answer_call-answer.result ∙ omega (arith, before.each, length_push c.loop-call.yielded c.in-Some.call);
      room = omega (arith, before.room, c.push.ensures.capacity);
      run = goes_on _ _ _ _ _ _ _ c.loop-call.yielded c.in-Some.call _ _ _ _ _ _ _ _ c.answer_call-answer.result c.loop-call.auto.work before.run c.answer_call-answer.ensures pushed;
    }

pub returns-clause-begun : goal.returns-clause-begun
returns-clause-begun g c = begun _ _ _ _ _ _ c.loop-call.yielded (into_iter_items c.loop-call.call-iterator) c.args.calls.items _ _ _ _ _ _ c.loop-call.invariant.in_order c.loop-call.invariant.each refl
    c.loop-call.invariant.run
