-- What a page call does: the first condition that it misses, or the network and the schedule that it rates.
use Rattle.std.specs.Prelude.{ℕ, cond, List, length, Ok, Err, Result, nat_lt}
use Rattle.network.specs.Network.{Network}
use Rattle.network.specs.Residual.{size}
use Rattle.formats.specs.declared.refusal.Refusal.{Refusal}
use Rattle.formats.specs.declared.refusal.Refusal.TheVariants.{LittleSpace}
use Rattle.formats.specs.Schedules.{Timed}
use Rattle.formats.specs.Sheets.{and_then}
use Rattle.interface.specs.Verdicts.{with_places}
use Rattle.texts.specs.Texts.{text_in}
use Rattle.rating.specs.Pages.{page_length_of}

-- a page that does not fit is refused
unfoldable pub in_space : ℕ → Network × List Timed → Result (Network × List Timed) Refusal
in_space space r = cond (nat_lt space (page_length_of (length r.1) r.0.junctions (size r.0))) (Err LittleSpace) (Ok r)

-- The workspace comes first, the text then, the space last.
unfoldable pub rating : ℕ → ℕ → List ℕ → ℕ → Result (Network × List Timed) Refusal
rating most places text space = with_places most places (and_then (text_in most text) (in_space space))
