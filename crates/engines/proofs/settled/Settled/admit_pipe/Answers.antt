use Rattle.engines.proofs.Calling.{numbered}
use Rattle.engines.proofs.settled.Settled.admit_pipe.Goals as goal

pub returns : goal.returns
returns c = rw c.ok_or.ensures.value (numbered c.args.places c.args.self.now.table c.args.pipe c.in_ok-admit_places.ensures c.pipe.result c.pipe.ensures)
