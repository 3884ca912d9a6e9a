-- How long numbers, lines and sheets are.
use Rattle.std.proofs.Common.{◌≡◌, ℕ, zero, suc, ◌+◌, ◌*◌, ◌/◌, ◌%◌, List, [], ◌∷◌, ◌++◌, length, take, codes, refl, ◌∙◌, arith, length-append}
use Rattle.std.specs.List.{flat_map}
use Rattle.std.proofs.lemmas.List.{length-map, length-take-le}
use Rattle.network.specs.declared.table.Table.{Table}
use Rattle.network.specs.Network.{Pipe, Network}
use Rattle.network.specs.Pipes.{pipe_of, network_of}
use Rattle.formats.specs.Fields.{digit_or_blank, padded, written}
use Rattle.formats.specs.Written.{valve_letter, header_columns, header_line, pipe_columns, pipe_line, sheet_of}

length_padded : (w n : ℕ) → length (padded w n) ≡ w
length_padded zero n = refl
length_padded (suc w) n = length-append (padded w (n / 10)) (digit_or_blank n ∷ []) ∙ omega (arith, length_padded w (n / 10))

pub length_written : (w n : ℕ) → length (written w n) ≡ w
unfolding written
length_written zero n = refl
length_written (suc w) n = length-append (padded w (n / 10)) ((48 + n % 10) ∷ []) ∙ omega (arith, length_padded w (n / 10))

length_four : (a b c d : List ℕ) → length a ≡ 5 → length b ≡ 5 → length c ≡ 5 → length d ≡ 5 → length (a ++ (b ++ (c ++ d))) ≡ 20
length_four a b c d p q r s = simp length-append (omega arith)

pub header_long : (w : Network) → length (header_columns w) ≡ 24
unfolding header_columns
header_long w =
    let e = length_four (written 5 w.junctions) (written 5 (length w.pipes)) (written 5 w.pump) (written 5 w.outlet) (length_written 5 w.junctions) (length_written 5 (length w.pipes)) (length_written 5 w.pump) (length_written 5 w.outlet) in
    omega arith

pub pipe_long : (p : Pipe) → length (pipe_columns p) ≡ 24
unfolding pipe_columns
pipe_long p =
    let e = length_four (written 5 p.from) (written 5 p.to) (written 5 p.limit) (codes "    " ++ valve_letter p.valve ∷ []) (length_written 5 p.from) (length_written 5 p.to) (length_written 5 p.limit) refl in
    omega arith

pub header_line_length : (w : Network) → length (header_line w) ≡ 25
header_line_length w = length-append (header_columns w) (10 ∷ []) ∙ omega (arith, header_long w)

pub pipe_line_length : (p : Pipe) → length (pipe_line p) ≡ 25
pipe_line_length p = length-append (pipe_columns p) (10 ∷ []) ∙ omega (arith, pipe_long p)

pub pipes_length : (ps : List Pipe) → length (flat_map pipe_line ps) ≡ 25 * length ps
pipes_length [] = refl
pipes_length (p ∷ ps) = length-append (pipe_line p) (flat_map pipe_line ps) ∙ omega (arith, pipe_line_length p, pipes_length ps)

pub sheet_length : (w : Network) → length (sheet_of w) ≡ 25 * (1 + length w.pipes)
unfolding sheet_of
sheet_length w = length-append (header_line w) (flat_map pipe_line w.pipes) ∙ omega (arith, header_line_length w, pipes_length w.pipes)

pub table_length : (t : Table) → length (network_of t).pipes ≡ t.count
table_length t = length-map (take t.count t.rows) pipe_of ∙ length-take-le t.count t.rows (let h = t.held in let l = t.long in omega arith)
