use Rattle.network.specs.Pipes.{network_of}
use Rattle.engines.proofs.Reading.{wrote}
use Rattle.engines.proofs.settled.Settled.write_sheet.Goals as goal

pub returns : goal.returns
returns c = wrote (network_of c.args.self.now.table) c.args.space.now c.try_put_sheet.new.space c.try_put_sheet.result c.try_put_sheet.ensures
