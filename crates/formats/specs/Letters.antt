-- Letters of sheets and patterns: O is the byte 79, C is 67, = is 61.
use Rattle.std.specs.Prelude.{ℕ, Bool, true, cond, ◌&&◌, List, [], ◌∷◌, is_some, Some, None, Option, ◌==◌}
use Rattle.network.specs.declared.valve.Valve as valve
use Rattle.network.specs.declared.valve.Valve.{Valve}
use Rattle.formats.specs.declared.setting.Setting as setting
use Rattle.formats.specs.declared.setting.Setting.{Setting}

-- in a sheet, O means open and C closed
abbrev pub valve_of : ℕ → Option Valve
valve_of b = cond (b == 79) (Some valve.TheVariants.Open) (cond (b == 67) (Some valve.TheVariants.Closed) None)

-- in a pattern, O leaves the valve open, C leaves it closed, and = leaves it as it was
abbrev pub setting_of : ℕ → Option Setting
setting_of b = cond (b == 79) (Some setting.TheVariants.Open) (cond (b == 67) (Some setting.TheVariants.Closed) (cond (b == 61) (Some setting.TheVariants.Unchanged) None))

abbrev pub set_to : Setting → Valve → Valve
set_to setting.TheVariants.Open v = valve.TheVariants.Open
set_to setting.TheVariants.Closed v = valve.TheVariants.Closed
set_to setting.TheVariants.Unchanged v = v

-- every letter means a setting
abbrev pub is_pattern : List ℕ → Bool
is_pattern [] = true
is_pattern (b ∷ bs) = is_some (setting_of b) && is_pattern bs
