use Rattle.texts.proofs.TextLaws.{text_laws}
use Rattle.texts.proofs.laws.texts_read_back.Goals as goal

pub returns : goal.returns
returns c = text_laws
