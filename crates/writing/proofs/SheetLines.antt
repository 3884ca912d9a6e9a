-- The lines of a sheet, one behind the other.
use Rattle.std.proofs.Common.{◌≡◌, ℕ, ◌+◌, ◌*◌, ◌<◌, ◌≤◌, List, [], ◌++◌, map, length, get_or, take, sym, ap, ◌∙◌, arith}
use borrow.Rule.Slice.PartMut.{put_mid}
use Rattle.std.specs.List.{flat_map}
use Rattle.std.proofs.lemmas.List.{flat_map_more, length-map, length-take-le, map_more}
use Rattle.network.specs.declared.row.Row.{Row}
use Rattle.network.specs.Network.{Network}
use Rattle.network.specs.Pipes.{pipe_of}
use Rattle.formats.specs.Spaces.{put_at}
use Rattle.formats.specs.Written.{header_line, pipe_line, sheet_of}
use Rattle.formats.proofs.Lengths.{header_line_length, pipe_line_length, pipes_length}
use Rattle.writing.proofs.Puts.{put_then, put_part}

rows_length : (rows : List Row) (k : ℕ) → k ≤ length rows → length (flat_map pipe_line (map pipe_of (take k rows))) ≡ 25 * k
rows_length rows k h = pipes_length (map pipe_of (take k rows)) ∙ ap (λ (n : ℕ). 25 * n) (length-map (take k rows) pipe_of ∙ length-take-le k rows h)

rows_more : (rows : List Row) (k : ℕ) (d : Row) → k < length rows → flat_map pipe_line (map pipe_of (take (k + 1) rows)) ≡ flat_map pipe_line (map pipe_of (take k rows)) ++ pipe_line (pipe_of (get_or rows k d))
rows_more rows k d h = ap (flat_map pipe_line) (map_more pipe_of rows k d h) ∙ sym (flat_map_more pipe_line [] (map pipe_of (take k rows)) (pipe_of (get_or rows k d)))

-- the line of one pipe more
pub pipes_more : (s space line : List ℕ) (rows : List Row) (k at n : ℕ) (d : Row) → 25 ≤ length s → k < length rows → at ≡ 25 * (1 + k) → n ≡ 25
    → space ≡ put_at 25 (flat_map pipe_line (map pipe_of (take k rows))) s → line ≡ pipe_line (pipe_of (get_or rows k d))
    → put_mid at n space line ≡ put_at 25 (flat_map pipe_line (map pipe_of (take (k + 1) rows))) s
pipes_more s space line rows k at n d inside h behind whole before is =
    let bs = flat_map pipe_line (map pipe_of (take k rows)) in
    let p = pipe_of (get_or rows k d) in
    let next : at ≡ 25 + length (flat_map pipe_line (map pipe_of (take k rows))) = omega (arith, rows_length rows k (omega arith)) in
    put_part space (pipe_line p) line at n (whole ∙ sym (pipe_line_length p)) is
    ∙ ap (put_at at (pipe_line p)) before
    ∙ put_then s 25 inside bs (pipe_line p) at next
    ∙ ap (λ (l : List ℕ). put_at 25 l s) (sym (rows_more rows k d h))

-- the lines of the pipes behind the first line
pub sheet_done : (s a b : List ℕ) (w : Network) → a ≡ put_at 0 (header_line w) s → b ≡ put_at 25 (flat_map pipe_line w.pipes) a → b ≡ put_at 0 (sheet_of w) s
unfolding sheet_of
sheet_done s a b w p q = q ∙ ap (put_at 25 (flat_map pipe_line w.pipes)) p ∙ put_then s 0 (omega arith) (header_line w) (flat_map pipe_line w.pipes) 25 (omega (arith, header_line_length w))
