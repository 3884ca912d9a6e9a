use Rattle.std.proofs.Common.{◌≡◌, length, sym, ◌∙◌, arith}
use Rattle.std.proofs.lemmas.List.{with_items_is}
use Rattle.runs.specs.Runs.{loads, not_loads, opens, not_opens, closes, not_closes, limits, not_limits, patterns, not_patterns, reports, not_reports, governs, not_governs}
use Rattle.runs.proofs.Asked.{told, answered, at_request, at_answer, stays, written, not_written, read, not_read}
use Rattle.runs.proofs.run.ask.Goals as goal

pub returns-in-Load : goal.returns-in-Load
returns-in-Load g c = told _ _ _ _ _ c.load-told.result c.load-told.ensures c.map_or_else.ensures
    (λ n e a. at_request c.in-Load.is (at_answer a (loads e.1.0 e.0 (g.met.E.FlowEngine.works _ _ _ _ e.1.1) (g.met.E.FlowEngine.greatest c.load-told.new.self))))
    (λ d e a. stays g.E.Engine.meaning g.E.FlowEngine.kept _ _ e.1 (at_request c.in-Load.is (at_answer a (not_loads e.0))))

pub returns-in-Open : goal.returns-in-Open
returns-in-Open g c = told _ _ _ _ _ c.open-told.result c.open-told.ensures c.map_or_else-in-Open.ensures
    (λ d e a. at_request c.in-Open.is (at_answer a (opens e.0 e.1 (g.met.E.FlowEngine.works _ _ _ _ e.2) (g.met.E.FlowEngine.greatest c.open-told.new.self))))
    (λ d e a. stays g.E.Engine.meaning g.E.FlowEngine.kept _ _ e.1 (at_request c.in-Open.is (at_answer a (not_opens e.0))))

pub returns-in-Close : goal.returns-in-Close
returns-in-Close g c = told _ _ _ _ _ c.close-told.result c.close-told.ensures c.map_or_else-in-Close.ensures
    (λ d e a. at_request c.in-Close.is (at_answer a (closes e.0 e.1 (g.met.E.FlowEngine.works _ _ _ _ e.2) (g.met.E.FlowEngine.greatest c.close-told.new.self))))
    (λ d e a. stays g.E.Engine.meaning g.E.FlowEngine.kept _ _ e.1 (at_request c.in-Close.is (at_answer a (not_closes e.0))))

pub returns-in-Limit : goal.returns-in-Limit
returns-in-Limit g c = told _ _ _ _ _ c.limit-told.result c.limit-told.ensures c.map_or_else-in-Limit.ensures
    (λ d e a. at_request c.in-Limit.is (at_answer a (limits e.0 e.1 (g.met.E.FlowEngine.works _ _ _ _ e.2) (g.met.E.FlowEngine.greatest c.limit-told.new.self))))
    (λ d e a. stays g.E.Engine.meaning g.E.FlowEngine.kept _ _ e.1 (at_request c.in-Limit.is (at_answer a (not_limits e.0))))

pub returns-in-Pattern : goal.returns-in-Pattern
returns-in-Pattern g c = told _ _ _ _ _ c.pattern-told.result c.pattern-told.ensures c.map_or_else-in-Pattern.ensures
    (λ d e a. at_request c.in-Pattern.is (at_answer a (patterns e.0 e.1 (g.met.E.FlowEngine.works _ _ _ _ e.2) (g.met.E.FlowEngine.greatest c.pattern-told.new.self))))
    (λ d e a. stays g.E.Engine.meaning g.E.FlowEngine.kept _ _ e.1 (at_request c.in-Pattern.is (at_answer a (not_patterns e.0))))

pub returns-in-Report : goal.returns-in-Report
returns-in-Report g c = answered c.report-told.result _ _ c.map_or_else-in-Report.ensures
    (λ x e a. at_request c.in-Report.is (at_answer a (reports (sym c.report-told.ensures.answer ∙ e))))
    (λ d e a. at_request c.in-Report.is (at_answer a (not_reports (sym c.report-told.ensures.answer ∙ e))))

pub returns-in-Governing : goal.returns-in-Governing
returns-in-Governing g c = answered c.governing-told.result _ _ c.map_or_else-in-Governing.ensures
    (λ x e a. at_request c.in-Governing.is (at_answer a (governs (sym c.governing-told.ensures.answer ∙ e))))
    (λ d e a. at_request c.in-Governing.is (at_answer a (not_governs (sym c.governing-told.ensures.answer ∙ e))))

pub returns-in-Ok : goal.returns-in-Ok
returns-in-Ok g c =
    let e = c.in-Ok.ensures in
    let n : length c.write_sheet.new.space ≡ c.in-WriteSheet.space.len = omega (arith, c.deref_mut.ensures.len) in
    at_request c.in-WriteSheet.is (written _ _ _ c.in-WriteSheet.space c.deref_mut.result.now c.deref_mut.ensures.value _ _ c.write_sheet.new.space (with_items_is c.in-WriteSheet.space c.write_sheet.new.space n) e.0 e.1)

pub returns-in-Err : goal.returns-in-Err
returns-in-Err g c =
    let e = c.in-Err.ensures in
    let n : length c.write_sheet.new.space ≡ c.in-WriteSheet.space.len = omega (arith, c.deref_mut.ensures.len) in
    at_request c.in-WriteSheet.is (not_written _ _ _ c.in-WriteSheet.space c.deref_mut.result.now c.deref_mut.ensures.value _ _ c.write_sheet.new.space (with_items_is c.in-WriteSheet.space c.write_sheet.new.space n) e.0 e.1)

pub returns-in-Ok-read_flow : goal.returns-in-Ok-read_flow
returns-in-Ok-read_flow g c =
    let e = c.in-Ok-read_flow.ensures in
    let n : length c.read_flow.new.row ≡ c.in-ReadFlow.row.len = omega (arith, c.deref_mut-in-ReadFlow.ensures.len) in
    at_request c.in-ReadFlow.is (read _ _ _ c.in-ReadFlow.row c.deref_mut-in-ReadFlow.result.now c.deref_mut-in-ReadFlow.ensures.value _ _ c.read_flow.new.row (with_items_is c.in-ReadFlow.row c.read_flow.new.row n) e.0 e.1)

pub returns-in-Err-read_flow : goal.returns-in-Err-read_flow
returns-in-Err-read_flow g c =
    let e = c.in-Err-read_flow.ensures in
    let n : length c.read_flow.new.row ≡ c.in-ReadFlow.row.len = omega (arith, c.deref_mut-in-ReadFlow.ensures.len) in
    at_request c.in-ReadFlow.is (not_read _ _ _ c.in-ReadFlow.row c.deref_mut-in-ReadFlow.result.now c.deref_mut-in-ReadFlow.ensures.value _ _ c.read_flow.new.row (with_items_is c.in-ReadFlow.row c.read_flow.new.row n) e.0 e.1)
