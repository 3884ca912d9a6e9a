use Rattle.texts.proofs.ScheduleTexts.{schedule_laws}
use Rattle.texts.proofs.laws.schedules_read_back.Goals as goal

pub returns : goal.returns
returns c = schedule_laws
