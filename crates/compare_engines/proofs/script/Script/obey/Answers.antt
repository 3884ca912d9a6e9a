use Rattle.std.proofs.Common.{refl, rules}
use Rattle.compare_engines.specs.Scripts.{loads, opens, closes, limits, patterns, reports, asks, writes, reads, places, schedules, steps}
use Rattle.compare_engines.proofs.Growing.{adds_none, adds_one, adds_two}
use Rattle.compare_engines.proofs.script.Script.obey.Goals as goal

pub returns-in-Sheet : goal.returns-in-Sheet
returns-in-Sheet c = adds_one _ _ _ c.in-Sheet.is _ _ _ _ (loads refl) refl c.add.ensures.entries c.add.ensures.places

pub returns-in-Open : goal.returns-in-Open
returns-in-Open c = adds_one _ _ _ c.in-Open.is _ _ _ _ opens refl c.add-in-Open.ensures.entries c.add-in-Open.ensures.places

pub returns-in-Close : goal.returns-in-Close
returns-in-Close c = adds_one _ _ _ c.in-Close.is _ _ _ _ closes refl c.add-in-Close.ensures.entries c.add-in-Close.ensures.places

pub returns-in-Limit : goal.returns-in-Limit
returns-in-Limit c = adds_one _ _ _ c.in-Limit.is _ _ _ _ limits refl c.add-in-Limit.ensures.entries c.add-in-Limit.ensures.places

pub returns-in-Pattern : goal.returns-in-Pattern
returns-in-Pattern c = adds_one _ _ _ c.in-Pattern.is _ _ _ _ (patterns c.behind_columns.ensures) refl c.add-in-Pattern.ensures.entries c.add-in-Pattern.ensures.places

pub returns-in-Report : goal.returns-in-Report
returns-in-Report c = adds_one _ _ _ c.in-Report.is _ _ _ _ reports refl c.add-in-Report.ensures.entries c.add-in-Report.ensures.places

pub returns-in-Governing : goal.returns-in-Governing
returns-in-Governing c = adds_one _ _ _ c.in-Governing.is _ _ _ _ asks refl c.add-in-Governing.ensures.entries c.add-in-Governing.ensures.places

pub returns-in_ok-space-in-WriteSheet : goal.returns-in_ok-space-in-WriteSheet
returns-in_ok-space-in-WriteSheet c = adds_one _ _ _ c.in-WriteSheet.is _ _ _ _ (writes (search rules)) refl c.add-in-WriteSheet.ensures.entries c.add-in-WriteSheet.ensures.places

pub returns-in_ok-row-in-ReadFlow : goal.returns-in_ok-row-in-ReadFlow
returns-in_ok-row-in-ReadFlow c = adds_one _ _ _ c.in-ReadFlow.is _ _ _ _ (reads (search rules)) refl c.add-in-ReadFlow.ensures.entries c.add-in-ReadFlow.ensures.places

pub returns-in-Places : goal.returns-in-Places
returns-in-Places c = adds_none _ _ _ c.in-Places.is _ _ places refl refl

pub returns-in-Schedule : goal.returns-in-Schedule
returns-in-Schedule c = adds_none _ _ _ c.in-Schedule.is _ _ schedules refl refl

pub returns-in_ok-add-in-Step : goal.returns-in_ok-add-in-Step
returns-in_ok-add-in-Step c =
    adds_two _ _ _ c.in-Step.is _ _ c.add-in-Step.new.self _ _ _ (steps c.behind_columns-in-Step.ensures) refl c.in_ok-add-in-Step.ensures.entries c.in_ok-add-in-Step.ensures.places c.add-in-Step-2.ensures.entries c.add-in-Step-2.ensures.places
