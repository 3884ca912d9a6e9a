-- What a schedule says, or the first condition that it misses, in the order of lines and fields that sheets have.
use Rattle.std.specs.Prelude.{◌≡◌, ℕ, ◌+◌, ◌≤◌, true, cond, List, [], length, drop, Ok, Err, codes, Result, ◌==◌}
use Rattle.formats.specs.declared.refusal.Refusal.{Refusal}
use Rattle.formats.specs.declared.refusal.Refusal.TheVariants.{WrongLetter, TrailingBytes}
use Rattle.formats.specs.declared.schedule.TimedPattern.{TimedPattern}
use Rattle.formats.specs.Letters.{is_pattern}
use Rattle.formats.specs.Lines.{after_line}
use Rattle.formats.specs.Sheets.{and_then, next_in, lines_in, number_at}

-- a step lasts so many minutes, and sets the valves by a pattern, a letter for each pipe
pub record Timed : Type 0 where
  pub minutes : ℕ
  pub letters : List ℕ

-- a step for so many pipes
pub record SoundStep (pipes : ℕ) (s : Timed) : Type 0 where
  pub some : 1 ≤ s.minutes
  pub few : s.minutes ≤ 1440
  pub long : length s.letters ≡ pipes
  pub patterned : is_pattern s.letters ≡ true

-- the fields of a step line: minutes, pattern
abbrev pub step_in : ℕ → List ℕ → Result Timed Refusal
step_in i bs =
    and_then (number_at i 0 1 1440 bs) (λ minutes.
    cond (is_pattern (drop 9 bs)) (Ok (record { minutes = minutes; letters = drop 9 bs })) (Err (WrongLetter i)))

abbrev pub next_step_in : ℕ → ℕ → List ℕ → Result Timed Refusal
next_step_in pipes = next_in (codes "STEP") (9 + pipes) step_in

-- k step lines more, of which line i is the first, after the steps ss: all steps, and the bytes that follow
abbrev pub steps_in : ℕ → ℕ → ℕ → List ℕ → List Timed → Result (List Timed × List ℕ) Refusal
steps_in k pipes = lines_in (next_step_in pipes) k

-- the number of steps, in the first line of a schedule
abbrev pub next_count_in : ℕ → List ℕ → Result ℕ Refusal
next_count_in = next_in (codes "SCHD") 9 (λ i. number_at i 0 1 100)

-- a schedule for so many pipes, whose first line is line i; no byte follows it
abbrev pub schedule_in : ℕ → ℕ → List ℕ → Result (List Timed) Refusal
schedule_in pipes i bs =
    and_then (next_count_in i bs) (λ n.
    and_then (steps_in n pipes (i + 1) (after_line bs) []) (λ r.
    cond (length r.1 == 0) (Ok r.0) (Err (TrailingBytes (i + n + 1)))))

-- the step that an element stands for
abbrev pub timed : TimedPattern → Timed
timed s = record { minutes = s.minutes; letters = s.letters.now }
