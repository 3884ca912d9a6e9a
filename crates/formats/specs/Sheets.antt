-- What a sheet says, or the first condition that it misses. Lines are checked in order; in a line first its length,
-- then its kind word, then each field from the left (how it is written before its range), then that two ends differ.
use Rattle.std.specs.Prelude.{ℕ, zero, suc, ◌+◌, ◌-◌, ◌*◌, ◌<◌, ◌≤◌, Bool, cond, ◌&&◌, ◌≢◌, List, [], ◌∷◌, ◌++◌, length, take, drop, Some, None, Ok, Err, codes, Option, Result, ◌==◌, nat_le, slice_index}
use Rattle.network.specs.declared.valve.Valve.{Valve}
use Rattle.network.specs.declared.row.Row.{Row}
use Rattle.network.specs.Network.{Pipe, Network}
use Rattle.network.specs.Rows.{Joined, Limited, Dry}
use Rattle.formats.specs.declared.refusal.Refusal.{Refusal}
use Rattle.formats.specs.declared.refusal.Refusal.TheVariants.{BadLine, WrongKind, BadNumber, OutOfRange, WrongLetter, SameEnds}
use Rattle.formats.specs.declared.header.Header.{Header}
use Rattle.formats.specs.Fields.{number_in}
use Rattle.formats.specs.Letters.{valve_of}
use Rattle.formats.specs.Lines.{ended, first_line, after_line}

-- what follows where nothing was missed
abbrev pub and_then : {A B : Type 0} → Result A Refusal → (A → Result B Refusal) → Result B Refusal
and_then (Ok x) f = f x
and_then (Err e) f = Err e

-- the line begins with the four letters of the kind word
abbrev pub of_kind : List ℕ → List ℕ → Bool
of_kind kind bs = ((slice_index bs 0 == slice_index kind 0 && slice_index bs 1 == slice_index kind 1) && slice_index bs 2 == slice_index kind 2) && slice_index bs 3 == slice_index kind 3

-- line i, with which the bytes begin, if it is the one that is due: of this kind, with so many columns
abbrev pub due : List ℕ → ℕ → ℕ → List ℕ → Result (List ℕ) Refusal
due kind columns i bs =
    cond (ended bs && length (first_line bs) == columns) (cond (of_kind kind (first_line bs)) (Ok (first_line bs)) (Err (WrongKind i))) (Err (BadLine i))

-- the next line, if it is due, and what it says
abbrev pub next_in : {A : Type 0} → List ℕ → ℕ → (ℕ → List ℕ → Result A Refusal) → ℕ → List ℕ → Result A Refusal
next_in kind columns says i bs = and_then (due kind columns i bs) (says i)

-- k lines more, of which line i is the first, each read by `next`, after the items xs: all items, and the bytes that follow
abbrev pub lines_in : {A : Type 0} → (ℕ → List ℕ → Result A Refusal) → ℕ → ℕ → List ℕ → List A → Result (List A × List ℕ) Refusal
lines_in next zero i bs xs = Ok (xs, bs)
lines_in next (suc k) i bs xs = and_then (next i bs) (λ x. lines_in next k (i + 1) (after_line bs) (xs ++ x ∷ []))

abbrev pub ranged : ℕ → ℕ → ℕ → Option ℕ → Result ℕ Refusal
ranged i least most None = Err (BadNumber i)
ranged i least most (Some n) = cond (nat_le least n && nat_le n most) (Ok n) (Err (OutOfRange i))

-- the number in field k of line i: after the kind word a line has fields of five columns
abbrev pub number_at : ℕ → ℕ → ℕ → ℕ → List ℕ → Result ℕ Refusal
number_at i k least most bs = ranged i least most (number_in (take 5 (drop (4 + 5 * k) bs)))

-- the fields of the first line: junctions, pipes, pump, outlet
abbrev pub header : ℕ → ℕ → List ℕ → Result Header Refusal
header most i bs =
    and_then (number_at i 0 2 most bs) (λ junctions.
    and_then (number_at i 1 0 512 bs) (λ pipes.
    and_then (number_at i 2 0 (junctions - 1) bs) (λ pump.
    and_then (number_at i 3 0 (junctions - 1) bs) (λ outlet.
    cond (pump == outlet) (Err (SameEnds i)) (Ok (record { junctions = junctions; pipes = pipes; pump = pump; outlet = outlet }))))))

-- what such a line says is sound
abbrev pub SoundHeader : ℕ → Header → Type 0
SoundHeader most h = (2 ≤ h.junctions) × (h.junctions ≤ most) × (h.pipes ≤ 512) × (h.pump < h.junctions) × (h.outlet < h.junctions) × (h.pump ≢ h.outlet)

-- the first line of a sheet, where the bytes begin with it
abbrev pub header_in : ℕ → ℕ → List ℕ → Result Header Refusal
header_in most = next_in (codes "NETW") 24 (header most)

-- columns 20 to 23 are blank
abbrev pub blank : List ℕ → Bool
blank bs = ((slice_index bs 19 == 32 && slice_index bs 20 == 32) && slice_index bs 21 == 32) && slice_index bs 22 == 32

abbrev pub valve_or_refusal : ℕ → Option Valve → Result Valve Refusal
valve_or_refusal i None = Err (WrongLetter i)
valve_or_refusal i (Some v) = Ok v

-- then the valve's letter in column 24
abbrev pub valve_at : ℕ → List ℕ → Result Valve Refusal
valve_at i bs = cond (blank bs) (valve_or_refusal i (valve_of (slice_index bs 23))) (Err (BadNumber i))

-- the fields of a pipe line: from, to, limit, valve
abbrev pub pipe_in : ℕ → ℕ → List ℕ → Result Pipe Refusal
pipe_in junctions i bs =
    and_then (number_at i 0 0 (junctions - 1) bs) (λ from.
    and_then (number_at i 1 0 (junctions - 1) bs) (λ to.
    and_then (number_at i 2 1 60000 bs) (λ limit.
    and_then (valve_at i bs) (λ v.
    cond (from == to) (Err (SameEnds i)) (Ok (record { from = from; to = to; limit = limit; valve = v }))))))

abbrev pub next_pipe_in : ℕ → ℕ → List ℕ → Result Pipe Refusal
next_pipe_in junctions = next_in (codes "PIPE") 24 (pipe_in junctions)

-- a row that such a line gives: sound, and with no flow
abbrev pub DryRow : ℕ → Row → Type 0
DryRow n row = Joined n row × Limited row × Dry row

-- k pipe lines more, of which line i is the first, after the pipes ps: all pipes, and the bytes that follow
abbrev pub pipes_in : ℕ → ℕ → ℕ → List ℕ → List Pipe → Result (List Pipe × List ℕ) Refusal
pipes_in k junctions = lines_in (next_pipe_in junctions) k

-- a sheet of at most so many junctions, whose first line is line i: its network, and the bytes that follow
abbrev pub sheet_in : ℕ → ℕ → List ℕ → Result (Network × List ℕ) Refusal
sheet_in most i bs =
    and_then (header_in most i bs) (λ h.
    and_then (pipes_in h.pipes h.junctions (i + 1) (after_line bs) []) (λ r.
    Ok (record { junctions = h.junctions; pump = h.pump; outlet = h.outlet; pipes = r.0 }, r.1)))
