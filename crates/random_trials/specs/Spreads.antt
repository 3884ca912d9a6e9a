-- Sets of junctions as words, and what the pipes of a plan do with them.
use Rattle.std.specs.Prelude.{ℕ, ◌^◌, Bool, not, cond, ◌&&◌, ◌==◌, nat_lt, bit_and, bit_or}
use Rattle.network.specs.declared.report.Report.{Report}
use Rattle.network.specs.declared.step.Direction.{Direction}
use Rattle.network.specs.declared.step.Direction.TheVariants.{Along, Against}
use Rattle.network.specs.Governing.{is_open}
use Rattle.random_trials.specs.declared.plan.Link.{Link}

-- the word with one junction, of the 64 that there may be
abbrev pub only : ℕ → ℕ
only k = cond (nat_lt k 64) (2 ^ k) 0

-- a set has a junction
abbrev pub has : ℕ → ℕ → Bool
has s k = not (bit_and s (only k) == 0)

-- a set with what a step adds: its end, where the set has its start
abbrev pub widened : ℕ → ℕ → ℕ → ℕ
widened s a b = cond (bit_and s a == 0) s (bit_or s b)

-- the start and the end of a pipe, taken along its way or against it
abbrev pub start_of : Link → Direction → ℕ
start_of l Along = l.from
start_of l Against = l.to

abbrev pub end_of : Link → Direction → ℕ
end_of l Along = l.to
end_of l Against = l.from

-- A set with what the residual steps of an open pipe add: the one with its way where it is not full, then the one against it where it carries something.
abbrev pub spread : Link → ℕ → ℕ → Direction → ℕ
spread l flow s d =
    let a = only (start_of l d) in
    let b = only (end_of l d) in
    let along = cond (is_open l.valve && nat_lt flow l.limit) (widened s a b) s in
    cond (is_open l.valve && nat_lt 0 flow) (widened along b a) along

-- a pipe is open, starts in the near side and ends outside the far side
abbrev pub governs : Link → Report → Bool
governs l r = is_open l.valve && has r.near l.from && not (has r.far l.to)
