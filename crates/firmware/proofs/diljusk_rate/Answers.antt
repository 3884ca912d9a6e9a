use Rattle.firmware.proofs.Entries.{accepted, turned_down}
use Rattle.firmware.proofs.diljusk_rate.Goals as goal

pub returns-in-Ok : goal.returns-in-Ok
returns-in-Ok c = let e = c.in-Ok.ensures in accepted _ e.0 e.1 c.args.page.now c.rate.new.page e.2 e.5

pub returns-in-Err : goal.returns-in-Err
returns-in-Err c = let e = c.in-Err.ensures in turned_down _ c.in-Err.refusal c.args.page.now c.rate.new.page c.number.result e.0 c.number.ensures e.4
