use Rattle.std.proofs.Common.{rules}
use Rattle.std.proofs.lemmas.List.{length-take-le}
use Rattle.network.specs.Rows.{Dry}
use Rattle.formats.specs.Sheets.{DryRow}
use Rattle.formats.proofs.Fills.{each_front, sheet_read}
use Rattle.formats.proofs.Moves.{went_past}
use Rattle.formats.proofs.reader.Reader.sheet.Goals as goal

pub returns : goal.returns
returns c =
    let h = c.in_ok-junctions.field-0 in
    let head = c.in_ok-junctions.ensures in
    let filled = c.in_ok-fill.ensures in (
      sheet_read c.args.most h _ c.fill.new.places c.args.self.now c.read_line.new.self c.fill.new.self (search rules) c.fill.auto.places head.0 head.2 filled.0,
      head.1.1,
      each_front (DryRow h.junctions) Dry (λ r p. p.2) h.pipes _ c.fill.new.places (search rules) c.fill.auto.places filled.1,
      went_past _ h.pipes c.args.self.now c.read_line.new.self c.fill.new.self (length-take-le h.pipes _ (search rules)) head.2 filled.2,
    )
