use Rattle.network.proofs.TableFacts.{record_is}
use Rattle.network.proofs.table.Table.pipe.Goals as goal

pub returns : goal.returns
returns c = record_is c.args.self.now c.args.k _ c.from_row.result c.if-k-self.false c.from_row.ensures
