use Rattle.std.proofs.Common.{◌≡◌, ◌≤◌, List, ◌++◌, map, length, take, drop, sym, refl, ap, ◌∙◌, arith, length-append}
use Rattle.std.specs.List.{flat_map}
use Rattle.std.proofs.lemmas.List.{length-take-le, take_all}
use Rattle.network.specs.declared.row.Row.{Row}
use Rattle.network.specs.Pipes.{pipe_of, network_of}
use Rattle.formats.specs.Spaces.{put_at}
use Rattle.formats.specs.Written.{pipe_line, header_line}
use Rattle.formats.proofs.Lengths.{sheet_length, table_length, header_line_length}
use Rattle.writing.proofs.Puts.{put_none, put_front}
use Rattle.writing.proofs.SheetLines.{pipes_more, sheet_done}
use Rattle.writing.proofs.sheet_lines.try_put_sheet.Goals as goal

pub returns-then-space-length : goal.returns-then-space-length
returns-then-space-length c = let l = sheet_length (network_of c.args.table.now) in let n = table_length c.args.table.now in (refl, omega arith, refl)

pub slice_bounds-fill_header-end-2 : goal.slice_bounds-fill_header-end-2
slice_bounds-fill_header-end-2 c = omega (arith, length-take-le 25 c.args.space.now (omega arith))

pub fill_header-requires : goal.fill_header-requires
fill_header-requires c = length-take-le 25 c.args.space.now (omega arith)

pub loop-k-init : goal.loop-k-init
loop-k-init c =
    let l = header_line_length (network_of c.args.table.now) in
    sym (put_none (c.fill_header.new.line ++ drop 25 c.args.space.now) 25 (omega (arith, length-append c.fill_header.new.line (drop 25 c.args.space.now), ap length c.fill_header.ensures)))

pub loop-k-preserved : goal.loop-k-preserved
loop-k-preserved c =
    let l = header_line_length (network_of c.args.table.now) in
    let inside : 25 ≤ length (c.fill_header.new.line ++ drop 25 c.args.space.now) = omega (arith, length-append c.fill_header.new.line (drop 25 c.args.space.now), ap length c.fill_header.ensures) in
    pipes_more (c.fill_header.new.line ++ drop 25 c.args.space.now) c.loop-k.space c.fill_pipe.new.line c.pipe_rows-rows.result.now c.loop-k.k _ _ _ inside c.loop-k-test.true refl (omega arith) c.loop-k.invariant c.fill_pipe.ensures

pub returns : goal.returns
returns c =
    let t = c.args.table.now in
    let l = sheet_length (network_of c.args.table.now) in
    let n = table_length c.args.table.now in
    let all : take c.loop-k.k c.pipe_rows-rows.result.now ≡ take c.args.table.now.count c.args.table.now.rows = take_all c.loop-k.k c.pipe_rows-rows.result.now c.loop-k-test.false ∙ c.pipe_rows-rows.ensures in
    let header = put_front c.args.space.now (header_line (network_of t)) c.fill_header.new.line 25 (sym (header_line_length (network_of t))) c.fill_header.ensures in (
      omega arith,
      omega arith,
      sheet_done c.args.space.now (c.fill_header.new.line ++ drop 25 c.args.space.now) c.loop-k.space (network_of t) header
          (c.loop-k.invariant ∙ ap (λ (rows : List Row). put_at 25 (flat_map pipe_line (map pipe_of rows)) (c.fill_header.new.line ++ drop 25 c.args.space.now)) all),
    )
