-- From the page call's answer to the entry's.
use Rattle.std.proofs.Common.{◌≡◌, ℕ, List, Ok, Err, Result, sym, refl, subst}
use Rattle.network.specs.Network.{Network}
use Rattle.formats.specs.declared.refusal.Refusal.{Refusal}
use Rattle.formats.specs.Refusals.{number}
use Rattle.formats.specs.Schedules.{Timed}
use Rattle.formats.specs.Spaces.{put_at}
use Rattle.rating.specs.Pages.{page_of}
use Rattle.firmware.specs.Entry.{RatedBy}

pub accepted : (v : Result (Network × List Timed) Refusal) (w : Network) (ss : List Timed) (before after : List ℕ) → v ≡ Ok (w, ss) → after ≡ put_at 0 (page_of w ss) before → RatedBy v before 0 after
accepted v w ss before after e p = subst (λ r. RatedBy r before 0 after) (sym e) (refl, p)

pub turned_down : (v : Result (Network × List Timed) Refusal) (f : Refusal) (before after : List ℕ) (n : ℕ) → v ≡ Err f → n ≡ number f → after ≡ before → RatedBy v before n after
turned_down v f before after n e q p = subst (λ r. RatedBy r before n after) (sym e) (q, p)
