use Rattle.std.proofs.Common.{◌≡◌, ◌+◌, ◌-◌, [], length, map, take}
use Rattle.std.specs.List.{AllByRecursion}
use Rattle.formats.specs.Readers.{rest, LinesRead}
use Rattle.formats.specs.Sheets.{next_in, lines_in}
use Rattle.formats.proofs.reader.Reader.fill.Given as goal

abbrev pub invariant-loop-place : goal.invariant-loop-place
invariant-loop-place g l =
    let K = g.K.Kind in
    let next = next_in K.word (K.columns l.kind) (K.says l.kind) in
    record {
      said : lines_in next (length l.place-items - l.place-index) (l.self.lines + 1) (rest l.self) (map K.meaning (take l.place-index l.place-items)) ≡ lines_in next (length l.place-items) (l.initial.self.lines + 1) (rest l.initial.self) [];
      sound : AllByRecursion (K.Sound l.kind) (take l.place-index l.place-items);
      went : LinesRead l.place-index l.initial.self l.self;
    }
