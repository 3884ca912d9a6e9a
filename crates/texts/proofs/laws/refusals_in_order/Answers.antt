use Rattle.texts.proofs.TextLaws.{refusal_laws}
use Rattle.texts.proofs.laws.refusals_in_order.Goals as goal

pub returns : goal.returns
returns c = refusal_laws
