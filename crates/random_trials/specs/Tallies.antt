-- Counts of checks, and their sums.
use Rattle.std.specs.Prelude.{◌+◌, ◌%◌, ◌^◌}
use Rattle.random_trials.specs.declared.tally.Tally.{Tally}

-- two counts together: each number is the sum of theirs, which wraps at 64 bits
abbrev pub summed : Tally → Tally → Tally
summed s t = record {
  checks = (s.checks + t.checks) % 2 ^ 64;
  failures = (s.failures + t.failures) % 2 ^ 64;
  augmentations = (s.augmentations + t.augmentations) % 2 ^ 64;
}
