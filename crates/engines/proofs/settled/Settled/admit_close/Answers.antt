use Rattle.engines.proofs.Calling.{closed}
use Rattle.engines.proofs.settled.Settled.admit_close.Goals as goal

pub returns : goal.returns
returns c = closed c.args.places c.args.self.now.table c.args.pipe c.admit_valve.result c.admit_valve.ensures
