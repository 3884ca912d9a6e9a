-- The network at each call of a run, by the verdicts alone.
use Rattle.std.specs.Prelude.{ℕ, min, List, [], ◌∷◌, take, Ok, Err, Result}
use Rattle.network.specs.Network.{Network, bare}
use Rattle.formats.specs.declared.refusal.Refusal.{Refusal}
use Rattle.interface.specs.Verdicts.{loading, opening, closing, limiting, patterning}
use Rattle.runs.specs.declared.call.Request.{Request}
use Rattle.runs.specs.declared.call.Request.TheVariants.{Load, Open, Close, Limit, Pattern, Report, Governing, WriteSheet, ReadFlow}
use Rattle.runs.specs.declared.call.Call.{Call}

-- the network that a verdict accepts; w stays where it refuses
abbrev pub accepted : Network → Result Network Refusal → Network
accepted w (Ok u) = u
accepted w (Err e) = w

abbrev pub accepted_sheet : Network → Result (Network × ℕ) Refusal → Network
accepted_sheet w (Ok r) = r.0
accepted_sheet w (Err e) = w

-- the network after a request: a report, a question or a reading leaves it
abbrev pub next_network : ℕ → ℕ → Network → Request → Network
next_network most places w (Load text) = accepted_sheet w (loading most places text.now)
next_network most places w (Open k) = accepted w (opening most places w k)
next_network most places w (Close k) = accepted w (closing most places w k)
next_network most places w (Limit k l) = accepted w (limiting most places w k l)
next_network most places w (Pattern letters) = accepted w (patterning most places w letters.now)
next_network most places w Report = w
next_network most places w (Governing k) = w
next_network most places w (WriteSheet space) = w
next_network most places w (ReadFlow row) = w

-- the network after some calls; each is given the places that it asks for, or all that there are
abbrev pub network_after : ℕ → ℕ → Network → List Call → Network
network_after most room w [] = w
network_after most room w (c ∷ cs) = network_after most room (next_network most (min c.places room) w c.request) cs

-- the network at call i, counted from 0: a bare one, changed by the calls before it
unfoldable pub network_at : ℕ → ℕ → List Call → ℕ → Network
network_at most room cs i = network_after most room bare (take i cs)
