use Rattle.std.proofs.Common.{◌≡◌, ℕ, ◌≤◌, List, length, drop, Ok, sym, ap, ◌∙◌, arith}
use Rattle.std.proofs.lemmas.Result.{err_from_is_err_and}
use Rattle.network.specs.Pipes.{network_of}
use Rattle.formats.specs.Sheets.{sheet_in}
use Rattle.texts.proofs.Reading.{sheet_start}
use Rattle.texts.proofs.TextLaws.{sheet_is_read, sheet_is_refused}
use Rattle.texts.proofs.text.read_sheet.Goals as goal

pub returns-in_err-table : goal.returns-in_err-table
returns-in_err-table c =
    let p = err_from_is_err_and c.from_residual.result c.from_residual.ensures.1 in
    let new = c.new-reader.ensures in
    let start = sheet_start c.args.most c.args.text.now c.new-reader.result new.0 new.1 new.2 in
    let e = sym start ∙ c.in_err-table.ensures in
    rw (p.1, p.2) (record { verdict = e; sheet = sheet_is_refused c.args.most c.args.text.now c.requires _ e })

pub returns : goal.returns
returns c =
    let new = c.new-reader.ensures in
    let text = c.args.text.now in
    let start = sheet_start c.args.most c.args.text.now c.new-reader.result new.0 new.1 new.2 in
    let t = c.in_ok-table.table in
    let got = c.in_ok-table.ensures in
    let at = c.sheet.new.self.at in
    let same : c.sheet.new.self.text.now ≡ c.args.text.now = got.3.same_text ∙ new.0 in
    let within : c.sheet.new.self.at ≤ length c.args.text.now = omega (arith, c.sheet.new.self.within, ap length same) in
    let e : sheet_in c.args.most 1 c.args.text.now ≡ Ok (network_of c.in_ok-table.table, drop c.sheet.new.self.at c.args.text.now) = sym start ∙ got.0 ∙ ap (λ (bs : List ℕ). Ok (network_of t, drop at bs)) same in
    record { verdict = (e, within, got.1, got.2); sheet = sheet_is_read c.args.most text c.requires (network_of t) at within e }
