use Rattle.std.proofs.Common.{rules}
use Rattle.std.proofs.ByRecursion.{All-map}
use Rattle.std.proofs.lemmas.List.{length-take-le}
use Rattle.formats.specs.Schedules.{SoundStep, timed}
use Rattle.formats.proofs.Fills.{front, schedule_read}
use Rattle.formats.proofs.Moves.{went_past}
use Rattle.formats.proofs.reader.Reader.schedule.Goals as goal

pub returns-then-at_end : goal.returns-then-at_end
returns-then-at_end c =
    let n = c.in_ok-count.count in
    let steps = c.fill.new.places in
    let count = c.in_ok-count.ensures in
    let filled = c.in_ok-fill.ensures in
    let same = c.fill.auto.places in (
      schedule_read c.args.pipes n _ steps c.args.self.now c.read_line.new.self c.fill.new.self (search rules) same count.0 count.2 filled.0 (search rules),
      rw (front n _ steps (search rules) same) (All-map (SoundStep c.args.pipes) timed steps filled.1),
      search rules,
      went_past _ n c.args.self.now c.read_line.new.self c.fill.new.self (length-take-le n _ (search rules)) count.2 filled.2,
    )
