use Rattle.std.proofs.Common.{rules, ◌≡◌, ◌+◌, map, take, sym, refl, ◌∙◌, arith}
use Rattle.std.proofs.lemmas.Result.{err_from_is_err_and}
use Rattle.network.specs.Pipes.{network_of}
use Rattle.network.specs.Residual.{size}
use Rattle.formats.specs.Readers.{rest}
use Rattle.formats.specs.Schedules.{schedule_in, timed}
use Rattle.formats.proofs.Lengths.{table_length}
use Rattle.texts.proofs.Reading.{sheet_start, steps_length, sheet_missed, schedule_missed, text_read}
use Rattle.texts.proofs.TextLaws.{text_is_read, text_is_refused}
use Rattle.texts.proofs.text.read_text.Goals as goal

pub returns-in_err-table : goal.returns-in_err-table
returns-in_err-table c =
    let p = err_from_is_err_and c.from_residual.result c.from_residual.ensures.1 in
    let new = c.new-reader.ensures in
    let start = sheet_start c.args.most c.args.text.now c.new-reader.result new.0 new.1 new.2 in
    let e = sheet_missed c.args.most c.args.text.now _ (sym start ∙ c.in_err-table.ensures) in
    rw (p.1, p.2) (e, text_is_refused c.args.most c.args.text.now c.requires _ e)

pub returns-in_err-schedule : goal.returns-in_err-schedule
returns-in_err-schedule c =
    let p = err_from_is_err_and c.from_residual-in_err-schedule.result c.from_residual-in_err-schedule.ensures.1 in
    let new = c.new-reader.ensures in
    let start = sheet_start c.args.most c.args.text.now c.new-reader.result new.0 new.1 new.2 in
    let table = c.in_ok-table.table in
    let got = c.in_ok-table.ensures in
    let w = network_of table in
    let reader = c.sheet.new.self in
    let sized = table_length table in
    let line : c.sheet.new.self.lines + 1 ≡ 2 + size (network_of c.in_ok-table.table) = omega (arith, got.3.counted, new.2) in
    let e = schedule_missed c.args.most c.args.text.now w (rest reader) (sym start ∙ got.0) _ ((λ x. schedule_in (sized x) (sym line x) (rest c.sheet.new.self)) ∙ c.in_err-schedule.ensures) in
    rw (p.1, p.2) (e, text_is_refused c.args.most c.args.text.now c.requires _ e)

pub returns : goal.returns
returns c =
    let new = c.new-reader.ensures in
    let most = c.args.most in
    let text = c.args.text.now in
    let start = sheet_start c.args.most c.args.text.now c.new-reader.result new.0 new.1 new.2 in
    let table = c.in_ok-table.table in
    let got = c.in_ok-table.ensures in
    let w = network_of table in
    let reader = c.sheet.new.self in
    let sized = table_length table in
    let line : c.sheet.new.self.lines + 1 ≡ 2 + size (network_of c.in_ok-table.table) = omega (arith, got.3.counted, new.2) in
    let steps = c.in_ok-schedule.ensures in
    let ss = map timed (take c.in_ok-schedule.schedule.count c.in_ok-schedule.schedule.steps) in
    let schedule = (λ x. schedule_in (sized x) (sym line x) (rest c.sheet.new.self)) ∙ steps.0 in
    let verdict = text_read most text w (rest reader) (sym start ∙ got.0) ss schedule in
    record {
      network = w;
      verdict = verdict;
      whole = text_is_read most text c.requires w ss (rest reader) (sym start ∙ got.0) schedule verdict;
      long = sym (steps_length c.in_ok-schedule.schedule.steps c.in_ok-schedule.schedule.count (omega (arith, c.in_ok-schedule.schedule.few, c.in_ok-schedule.schedule.long)));
      joined = refl;
      sized = sym sized;
    }
