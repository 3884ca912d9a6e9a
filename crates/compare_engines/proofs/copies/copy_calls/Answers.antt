use Rattle.std.proofs.Common.{◌≡◌, [], ◌∷◌, ◌++◌, is_ok, vec_items, refl, ap}
use Rattle.std.proofs.ResultArms.{chosen}
use Rattle.runs.specs.declared.call.Call.{Call}
use Rattle.compare_engines.proofs.Copying.{none_copied, next_copied}
use Rattle.compare_engines.proofs.copies.copy_calls.Goals as goal

pub loop-entry-init : goal.loop-entry-init
loop-entry-init c = none_copied _ c.new-copies.ensures.items

pub loop-entry-preserved : goal.loop-entry-preserved
loop-entry-preserved c =
    let copy : Call = record { request = c.in_ok-request.request; places = c.entry-item.result.call.places } in
    let pushed : vec_items c.push.new.self ≡ vec_items c.loop-entry.copies ++ copy ∷ [] = chosen _ _ _ _ c.push.ensures.items (ap is_ok c.in_ok-push.was) in
    next_copied c.args.entries.now c.loop-entry.entry-index c.entry-item.result (vec_items c.loop-entry.copies) (vec_items c.push.new.self) copy c.loop-entry-test.true c.entry-item.is
    c.loop-entry.invariant (record { request = c.in_ok-request.ensures; places = refl }) pushed
