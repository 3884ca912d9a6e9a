-- What a script says: the calls that its lines make.
use Rattle.std.specs.Prelude.{◌≡◌, ℕ, zero, suc, ◌+◌, ◌<◌, cond, ◌&&◌, List, [], ◌∷◌, ◌++◌, map, length, drop, Ok, Err, vec_items, Result, Vec}
use Rattle.std.specs.Borrow.{Bor}
use Rattle.std.specs.declared.alloc.Global.{Global}
use Rattle.formats.specs.Lines.{ended, first_line, after_line}
use Rattle.formats.specs.Readers.{rest}
use Rattle.formats.specs.declared.reader.Line.{Line}
use Rattle.formats.specs.declared.reader.Reader.{Reader}
use Rattle.formats.specs.declared.refusal.Refusal.{Refusal}
use Rattle.formats.specs.declared.refusal.Refusal.TheVariants.{BadLine}
use Rattle.runs.specs.declared.call.Call.{Call}
use Rattle.runs.specs.declared.call.Request.{Request}
use Rattle.runs.specs.declared.call.Request as request
use Rattle.compare_engines.specs.declared.entry.Entry.{Entry}
use Rattle.compare_engines.specs.declared.order.Order.{Order}
use Rattle.compare_engines.specs.declared.order.Order.TheVariants.{Sheet, Open, Close, Limit, Pattern, Report, Governing, WriteSheet, ReadFlow, Places, Schedule, Step}
use Rattle.compare_engines.specs.declared.script.Script.{Script}
use Rattle.compare_engines.specs.declared.stop.Stop.{Stop}
use Rattle.compare_engines.specs.declared.stop.Stop.TheVariants.{Memory, Unread}
use Rattle.compare_engines.specs.Orders.{order_in, pipe_follows_in}

-- what line i asks for, with which the bytes begin; it ends in a line feed
abbrev pub line_in : ℕ → List ℕ → Result Order Refusal
line_in i bs = cond (ended bs) (order_in i (first_line bs)) (Err (BadLine i))

-- the number of lines before, and the bytes behind, at most n such lines
abbrev pub behind_pipes : ℕ → ℕ → List ℕ → ℕ × List ℕ
behind_pipes zero i bs = (i, bs)
behind_pipes (suc n) i bs = cond (pipe_follows_in bs && ended bs) (behind_pipes n (i + 1) (after_line bs)) (i, bs)

-- the same behind an order, whose line is line i: its PIPE lines belong to a sheet
abbrev pub behind : Order → ℕ → List ℕ → ℕ × List ℕ
behind (Sheet n) i bs = behind_pipes n i bs
behind (Open k) i bs = (i, bs)
behind (Close k) i bs = (i, bs)
behind (Limit k l) i bs = (i, bs)
behind Pattern i bs = (i, bs)
behind Report i bs = (i, bs)
behind (Governing k) i bs = (i, bs)
behind WriteSheet i bs = (i, bs)
behind ReadFlow i bs = (i, bs)
behind (Places n) i bs = (i, bs)
behind Schedule i bs = (i, bs)
behind Step i bs = (i, bs)

-- the workspace places for the calls behind an order
abbrev pub places_after : ℕ → Order → ℕ
places_after p (Sheet n) = p
places_after p (Open k) = p
places_after p (Close k) = p
places_after p (Limit k l) = p
places_after p Pattern = p
places_after p Report = p
places_after p (Governing k) = p
places_after p WriteSheet = p
places_after p ReadFlow = p
places_after p (Places n) = n
places_after p Schedule = p
places_after p Step = p

-- The requests that an order makes: `line` is its line, `text` the bytes from that line on. A sheet is written over what `space` holds, and a flow over `row`.
pub data Makes (line text space row : List ℕ) : Order → List Request → Type 0 where
  loads : {n : ℕ} {t : Bor (List ℕ)} → t.now ≡ text → Makes line text space row (Sheet n) (request.TheVariants.Load t ∷ [])
  opens : {k : ℕ} → Makes line text space row (Open k) (request.TheVariants.Open k ∷ [])
  closes : {k : ℕ} → Makes line text space row (Close k) (request.TheVariants.Close k ∷ [])
  limits : {k l : ℕ} → Makes line text space row (Limit k l) (request.TheVariants.Limit k l ∷ [])
  patterns : {t : Bor (List ℕ)} → t.now ≡ drop 4 line → Makes line text space row Pattern (request.TheVariants.Pattern t ∷ [])
  reports : Makes line text space row Report (request.TheVariants.Report ∷ [])
  asks : {k : ℕ} → Makes line text space row (Governing k) (request.TheVariants.Governing k ∷ [])
  writes : {t : Vec ℕ Global} → vec_items t ≡ space → Makes line text space row WriteSheet (request.TheVariants.WriteSheet t ∷ [])
  reads : {t : Vec ℕ Global} → vec_items t ≡ row → Makes line text space row ReadFlow (request.TheVariants.ReadFlow t ∷ [])
  places : {n : ℕ} → Makes line text space row (Places n) []
  schedules : Makes line text space row Schedule []
  steps : {t : Bor (List ℕ)} → t.now ≡ drop 9 line → Makes line text space row Step (request.TheVariants.Pattern t ∷ request.TheVariants.Report ∷ [])

-- a request with its places, and the line that it stands on
abbrev pub entered : ℕ → Line → Request → Entry
entered p l q = record { call = record { request = q; places = p }; line = l }

-- the calls alone
abbrev pub calls_of : List Entry → List Call
calls_of es = map (λ (e : Entry). e.call) es

-- what an order adds to the calls before it
pub record Adds (text space row : List ℕ) (l : Line) (o : Order) (before after : Script) : Type 0 where
  pub requests : List Request
  pub made : Makes l.bytes.now text space row o requests
  pub entries : vec_items after.entries ≡ vec_items before.entries ++ map (entered before.places l) requests
  pub places : after.places ≡ places_after before.places o

-- The first i lines of a text, behind which the bytes bs follow, make the calls es, each with the line that it stands on; a call behind them is given p places.
-- A sheet is written over what `space` holds, and a flow over `row`.
pub data Lines (text space row : List ℕ) : ℕ → List ℕ → ℕ → List Entry → Type 0 where
  none : Lines text space row 0 text 64 []
  more : {i p : ℕ} {bs : List ℕ} {es : List Entry} {o : Order} {qs : List Request} (l : Line)
      → Lines text space row i bs p es → l.number ≡ i + 1 → l.bytes.now ≡ first_line bs → line_in (i + 1) bs ≡ Ok o → Makes l.bytes.now bs space row o qs
      → Lines text space row (behind o (i + 1) (after_line bs)).0 (behind o (i + 1) (after_line bs)).1 (places_after p o) (es ++ map (entered p l) qs)

-- all lines of a text make these calls
abbrev pub Says : (text space row : List ℕ) → List Entry → Type 0
Says text space row es = (i : ℕ) × (p : ℕ) × Lines text space row i [] p es

-- the bytes behind the first i lines begin with no line that can be read
abbrev pub Stops : ℕ → List ℕ → Stop → Type 0
Stops i bs Memory = Unit {0}
Stops i bs (Unread e) = line_in (i + 1) bs ≡ Err e

-- one line more was read, with the PIPE lines that belong to it
pub record Extends (space row : List ℕ) (before : Script) (from : Reader) (after : Script) (to : Reader) : Type 0 where
  pub lines : (text : List ℕ) → Lines text space row from.lines (rest from) before.places (vec_items before.entries) → Lines text space row to.lines (rest to) after.places (vec_items after.entries)
  pub shorter : length (rest to) < length (rest from)

-- some lines of a text were read, and then no more
pub record Breaks (text space row : List ℕ) (s : Stop) : Type 0 where
  pub before : ℕ
  pub left : List ℕ
  pub places : ℕ
  pub entries : List Entry
  pub read : Lines text space row before left places entries
  pub stops : Stops before left s
