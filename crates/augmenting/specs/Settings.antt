-- A valve set by a letter of a pattern.
use Rattle.std.specs.Prelude.{Some, None, Option}
use Rattle.network.specs.declared.valve.Valve.{Valve}
use Rattle.formats.specs.declared.setting.Setting.{Setting}
use Rattle.formats.specs.Letters.{set_to}

-- a letter that means nothing leaves the valve
abbrev pub valve_by : Option Setting → Valve → Valve
valve_by None v = v
valve_by (Some s) v = set_to s v
