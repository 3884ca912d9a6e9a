-- How a request must be answered, by a plan.
use Rattle.std.specs.Prelude.{ℕ, Bool, List, length, ◌==◌, ◌||◌, cond, nat_lt, slice_get, vec_len, Some, None, Result, Ok, Err}
use Rattle.std.specs.List.{list_all}
use Rattle.network.specs.declared.valve.Valve.{Valve}
use Rattle.network.specs.declared.valve.Valve.TheVariants.{Open, Closed}
use Rattle.formats.specs.declared.refusal.Refusal.{Refusal}
use Rattle.formats.specs.declared.refusal.Refusal.TheVariants.{BadLine, OutOfRange, WrongLetter, NoSuchPipe, FewPlaces, LittleSpace, AlreadyOpen, AlreadyClosed}
use Rattle.random_trials.specs.declared.plan.Link.{Link}
use Rattle.random_trials.specs.declared.plan.Plan.{Plan}
use Rattle.random_trials.specs.declared.request.Request.{Request}
use Rattle.random_trials.specs.declared.request.Request.TheVariants.{Load, Open as ToOpen, Close, Limit, Pattern, Report, Governing, WriteSheet, ReadFlow}

-- the pipe, or that there is none of that number
abbrev pub due_of_pipe : List Link → ℕ → Result Link Refusal
due_of_pipe links k = elim (slice_get links k) [ None ↦ Err NoSuchPipe | Some l ↦ Ok l ]

-- a valve is turned only from where it is not
abbrev pub due_of_turn : Valve → Valve → Result Unit Refusal
due_of_turn Open Open = Err AlreadyOpen
due_of_turn Open Closed = Ok tt
due_of_turn Closed Open = Ok tt
due_of_turn Closed Closed = Err AlreadyClosed

abbrev pub due_of_valve : List Link → ℕ → Valve → Result Unit Refusal
due_of_valve links k v = elim (due_of_pipe links k) [ Err e ↦ Err e | Ok l ↦ due_of_turn l.valve v ]

-- a limit is 1 to 60,000
abbrev pub due_of_limit : List Link → ℕ → ℕ → Result Unit Refusal
due_of_limit links k limit = elim (due_of_pipe links k) [
  | Err e ↦ Err e
  | Ok _ ↦ cond (nat_lt limit 1 || nat_lt 60000 limit) (Err (OutOfRange 0)) (Ok tt)
]

-- the letters O, C and =
abbrev pub is_letter : ℕ → Bool
is_letter x = x == 79 || x == 67 || x == 61

-- a letter for each pipe
abbrev pub due_of_pattern : ℕ → List ℕ → Result Unit Refusal
due_of_pattern count letters = cond (length letters == count)
    (cond (list_all is_letter letters) (Ok tt) (Err (WrongLetter 0)))
    (Err (BadLine 0))

-- an answer fits into the room that it is given
abbrev pub due_of_space : ℕ → ℕ → Result Unit Refusal
due_of_space space needed = cond (nat_lt space needed) (Err LittleSpace) (Ok tt)

-- a call that works has as many places as a network has junctions
abbrev pub with_places : ℕ → Result Unit Refusal → Result Unit Refusal
with_places places due = cond (nat_lt places 64) (Err FewPlaces) due

abbrev pub due_of : Request → Plan → ℕ → Result Unit Refusal
due_of (Load damage) p places = with_places places (Err damage.refusal)
due_of (ToOpen k) p places = with_places places (due_of_valve p.links.items k Open)
due_of (Close k) p places = with_places places (due_of_valve p.links.items k Closed)
due_of (Limit k limit) p places = with_places places (due_of_limit p.links.items k limit)
due_of (Pattern letters) p places = with_places places (due_of_pattern (vec_len p.links) letters.items)
due_of Report p places = with_places places (Ok tt)
due_of (Governing k) p places = with_places places (elim (due_of_pipe p.links.items k) [ Err e ↦ Err e | Ok _ ↦ Ok tt ])
due_of (WriteSheet space) p places = due_of_space space (vec_len p.sheet)
due_of (ReadFlow row) p places = due_of_space row (vec_len p.links)
