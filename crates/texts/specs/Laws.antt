-- Texts are read as they are written, and in no other way.
use Rattle.std.specs.Prelude.{◌≡◌, ℕ, ◌≤◌, ◌↔◌, List, ◌++◌, length, take, drop, Some, None, Ok, Err, ◌≢◌}
use Rattle.std.specs.List.{AllByRecursion}
use Rattle.network.specs.Network.{Network, Sound}
use Rattle.network.specs.Residual.{size}
use Rattle.formats.specs.declared.refusal.Refusal.{Refusal}
use Rattle.texts.specs.declared.extent.Extent.{Extent}
use Rattle.texts.specs.Conditions.{first_missed, sheet_conditions, schedule_conditions, text_conditions}
use Rattle.formats.specs.Schedules.{Timed, SoundStep, schedule_in}
use Rattle.formats.specs.Sheets.{sheet_in}
use Rattle.formats.specs.Written.{sheet_of, schedule_of}
use Rattle.texts.specs.Texts.{text_of, text_in}

-- a network that is accepted where at most so many junctions are
pub record Accepted (most : ℕ) (w : Network) : Type 0 where
  pub sound : Sound w
  pub few : w.junctions ≤ most

pub record SheetLaws (most : ℕ) : Type 0 where
  -- a sheet that is written is read back, on any line and whatever follows it
  pub written_read : (w : Network) → Accepted most w → (i : ℕ) (more : List ℕ) → sheet_in most i (sheet_of w ++ more) ≡ Ok (w, more)
  -- a sheet that is read was written so: no other sheet gives this network
  pub read_written : (i : ℕ) (bs : List ℕ) (w : Network) (more : List ℕ) → sheet_in most i bs ≡ Ok (w, more) → Accepted most w × (bs ≡ sheet_of w ++ more)
  -- a text is accepted as w with n bytes taken exactly when its first n bytes are the sheet of w
  pub taken : (i : ℕ) (bs : List ℕ) (w : Network) (n : ℕ) → n ≤ length bs → (sheet_in most i bs ≡ Ok (w, drop n bs)) ↔ (Accepted most w × (take n bs ≡ sheet_of w))
  -- a text is refused exactly when it begins with no sheet
  pub refused : (i : ℕ) (bs : List ℕ) → ((e : Refusal) × (sheet_in most i bs ≡ Err e)) ↔ ((w : Network) (more : List ℕ) → Accepted most w → bs ≢ sheet_of w ++ more)

-- two networks have different sheets, and neither sheet begins the other
abbrev pub OneSheet : Network → Network → Type 0
OneSheet w u = (more others : List ℕ) → sheet_of w ++ more ≡ sheet_of u ++ others → (w ≡ u) × (more ≡ others)

-- a schedule for so many pipes: 1 to 100 steps
pub record SoundSchedule (pipes : ℕ) (ss : List Timed) : Type 0 where
  pub some : 1 ≤ length ss
  pub few : length ss ≤ 100
  pub steps : AllByRecursion (SoundStep pipes) ss

pub record ScheduleLaws (pipes : ℕ) : Type 0 where
  -- a schedule that is written is read back, from any line on
  pub written_read : (ss : List Timed) → SoundSchedule pipes ss → (i : ℕ) → schedule_in pipes i (schedule_of ss) ≡ Ok ss
  -- a schedule that is read was written so: no other text gives these steps
  pub read_written : (i : ℕ) (bs : List ℕ) (ss : List Timed) → schedule_in pipes i bs ≡ Ok ss → SoundSchedule pipes ss × (bs ≡ schedule_of ss)
  -- a text is refused exactly when it is no schedule
  pub refused : (i : ℕ) (bs : List ℕ) → ((e : Refusal) × (schedule_in pipes i bs ≡ Err e)) ↔ ((ss : List Timed) → SoundSchedule pipes ss → bs ≢ schedule_of ss)
  -- two lists of steps have different schedules, for as many pipes or others
  pub one : (others : ℕ) (ss ts : List Timed) → SoundSchedule pipes ss → SoundSchedule others ts → schedule_of ss ≡ schedule_of ts → ss ≡ ts

pub record TextLaws (most : ℕ) : Type 0 where
  -- a text is accepted as w and ss exactly when it is the sheet of w and then the schedule of ss
  pub taken : (bs : List ℕ) (w : Network) (ss : List Timed) → (text_in most bs ≡ Ok (w, ss)) ↔ (Accepted most w × SoundSchedule (size w) ss × (bs ≡ text_of w ss))
  -- a text is refused exactly when it is no such text
  pub refused : (bs : List ℕ) → ((e : Refusal) × (text_in most bs ≡ Err e)) ↔ ((w : Network) (ss : List Timed) → Accepted most w → SoundSchedule (size w) ss → bs ≢ text_of w ss)

-- each refusal is given exactly when its condition is the first missed
pub record RefusalLaws : Type 0 where
  pub sheets : (most i : ℕ) (bs : List ℕ) (e : Refusal) → (sheet_in most i bs ≡ Err e) ↔ (first_missed (sheet_conditions most i bs) ≡ Some e)
  pub schedules : (pipes i : ℕ) (bs : List ℕ) (e : Refusal) → (schedule_in pipes i bs ≡ Err e) ↔ (first_missed (schedule_conditions pipes i bs) ≡ Some e)
  pub texts : (most : ℕ) (bs : List ℕ) (e : Refusal) → (text_in most bs ≡ Err e) ↔ (first_missed (text_conditions most bs) ≡ Some e)

-- a text that begins with the sheet of w, n bytes long, and with the sheet of no other network
pub record SheetRead (most : ℕ) (text : List ℕ) (w : Network) (n : ℕ) : Type 0 where
  pub accepted : Accepted most w
  pub taken : take n text ≡ sheet_of w
  pub only : (u : Network) (more : List ℕ) → Accepted most u → text ≡ sheet_of u ++ more → u ≡ w
  pub met : first_missed (sheet_conditions most 1 text) ≡ None

-- a text that begins with no sheet: e is the refusal of the first condition missed
pub record SheetRefused (most : ℕ) (text : List ℕ) (e : Refusal) : Type 0 where
  pub first : first_missed (sheet_conditions most 1 text) ≡ Some e
  pub none : (u : Network) (more : List ℕ) → Accepted most u → text ≢ sheet_of u ++ more

-- a text that is the sheet of w and then the schedule of ss, and nothing else
pub record TextRead (most : ℕ) (text : List ℕ) (w : Network) (ss : List Timed) : Type 0 where
  pub accepted : Accepted most w
  pub scheduled : SoundSchedule (size w) ss
  pub is : text ≡ text_of w ss
  pub only : (u : Network) (ts : List Timed) → Accepted most u → SoundSchedule (size u) ts → text ≡ text_of u ts → (u ≡ w) × (ts ≡ ss)
  pub met : first_missed (text_conditions most text) ≡ None

-- a text that is no sheet with a schedule: e is the refusal of the first condition missed
pub record TextRefused (most : ℕ) (text : List ℕ) (e : Refusal) : Type 0 where
  pub first : first_missed (text_conditions most text) ≡ Some e
  pub none : (u : Network) (ts : List Timed) → Accepted most u → SoundSchedule (size u) ts → text ≢ text_of u ts

-- a text that has been read, and how much there is to rate
pub record Read (most : ℕ) (text : List ℕ) (steps : List Timed) (x : Extent) : Type 0 where
  pub network : Network
  pub verdict : text_in most text ≡ Ok (network, steps)
  pub whole : TextRead most text network steps
  pub long : x.steps ≡ length steps
  pub joined : x.junctions ≡ network.junctions
  pub sized : x.pipes ≡ size network
