use Rattle.std.proofs.Common.{◌≡◌, map, take}
use Rattle.std.specs.List.{flat_map}
use Rattle.network.specs.Pipes.{pipe_of}
use Rattle.formats.specs.Spaces.{put_at}
use Rattle.formats.specs.Written.{pipe_line}
use Rattle.writing.proofs.sheet_lines.try_put_sheet.Given as goal

abbrev pub invariant-loop-k : goal.invariant-loop-k
invariant-loop-k l = l.space ≡ put_at 25 (flat_map pipe_line (map pipe_of (take l.k l.rows))) l.initial.space
