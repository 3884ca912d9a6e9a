use Rattle.std.proofs.Common.{arith}
use Rattle.network.specs.declared.valve.Valve.TheVariants.{Open}
use Rattle.engines.proofs.Working.{fillable_with}
use Rattle.engines.proofs.warm.WarmKeeping.open.Goals as goal

pub refill-requires : goal.refill-requires
refill-requires g c =
    let e = c.args.settled.now in
    let old = c.args.old in
    let none = rw c.requires.closed at old.within in
    let few = c.change_row.new.table.most in
    let h = fillable_with e.table c.args.pipe old c.requires.stands e.greatest old.limit Open (omega arith) c.change_row.new.table c.change_row.ensures.network c.change_row.ensures.flow in
    record { places = omega (arith, c.requires.places); flow = h.flow; forth = h.forth }
