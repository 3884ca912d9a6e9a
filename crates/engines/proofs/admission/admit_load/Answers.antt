use Rattle.engines.proofs.Reading.{loaded}
use Rattle.engines.proofs.admission.admit_load.Goals as goal

pub returns : goal.returns
returns c = loaded c.args.text.now c.args.places c.in_ok-admit_places.ensures c.read_sheet.result c.read_sheet.ensures.verdict
