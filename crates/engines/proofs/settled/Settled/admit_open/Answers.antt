use Rattle.engines.proofs.Calling.{opened}
use Rattle.engines.proofs.settled.Settled.admit_open.Goals as goal

pub returns : goal.returns
returns c = opened c.args.places c.args.self.now.table c.args.pipe c.admit_valve.result c.admit_valve.ensures
