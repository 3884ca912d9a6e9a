use Rattle.texts.proofs.SheetLaws.{one_sheet}
use Rattle.texts.proofs.laws.sheets_differ.Goals as goal

pub returns : goal.returns
returns c = one_sheet
