use Rattle.texts.proofs.SheetLaws.{sheet_laws}
use Rattle.texts.proofs.laws.sheets_read_back.Goals as goal

pub returns : goal.returns
returns c = sheet_laws
