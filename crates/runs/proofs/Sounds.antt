-- Every network of a run is sound.
use Rattle.std.proofs.Common.{◌≡◌, ℕ, ◌<◌, ◌≤◌, min, cond, ◌&&◌, eqb, ltb, leb, List, [], ◌∷◌, length, Ok, Err, Result, refl, arith, length-set}
use Rattle.std.proofs.ByRecursion.{All-get_or, All-set}
use Rattle.std.proofs.lemmas.Bool.{cond_both, and_parts, ltb-true, leb-true}
use Rattle.network.specs.declared.valve.Valve.{Valve}
use Rattle.network.specs.Changes as changes
use Rattle.network.specs.Changes.{with_pipe, with_limit, with_valve}
use Rattle.network.specs.Governing.{is_open}
use Rattle.network.specs.Network.{Pipe, Network, Limited, Sound, bare}
use Rattle.network.specs.Residual.{nowhere, pipe, size}
use Rattle.network.proofs.Changes.{with_wired}
use Rattle.formats.specs.declared.refusal.Refusal.{Refusal}
use Rattle.formats.specs.declared.refusal.Refusal.TheVariants.{BadLine, OutOfRange, WrongLetter, NoSuchPipe, FewPlaces, AlreadyOpen, AlreadyClosed}
use Rattle.formats.specs.Letters.{is_pattern}
use Rattle.interface.specs.Verdicts.{with_places, with_number, loading, patterned}
use Rattle.interface.proofs.Patterned.{patterned_sound}
use Rattle.runs.specs.declared.call.Request.{Request}
use Rattle.runs.specs.declared.call.Request.TheVariants.{Load, Open, Close, Limit, Pattern, Report, Governing, WriteSheet, ReadFlow}
use Rattle.runs.specs.declared.call.Call.{Call}
use Rattle.runs.specs.Networks.{accepted, accepted_sheet, next_network, network_after}
use Rattle.runs.proofs.Sheets.{loaded_sound}

with_sound : (w : Network) (k : ℕ) (p : Pipe) → k < size w → p.from ≡ (pipe w k).from → p.to ≡ (pipe w k).to → Limited p → Sound w → Sound (with_pipe w k p)
with_sound w k p k-in from to l s = record {
  wired = with_wired w k k-in p from to s.wired;
  two = s.two;
  most = s.most;
  held = omega (arith, s.held, length-set w.pipes k p);
  limited = All-set Limited w.pipes k p l s.limited;
}

valve_sound : (w : Network) (k : ℕ) (v : Valve) → k < size w → Sound w → Sound (with_pipe w k (with_valve (pipe w k) v))
valve_sound w k v k-in s =
    let l = All-get_or Limited w.pipes k nowhere k-in s.limited in
    with_sound w k (with_valve (pipe w k) v) k-in refl refl (record { some = l.some; few = l.few }) s

-- sound, and within an engine's bound
abbrev pub Fits : ℕ → Network → Type 0
Fits most w = Sound w × (w.junctions ≤ most)

pub bare_fits : (most : ℕ) → 2 ≤ most → Fits most bare
bare_fits most h = (
  record {
    wired = record { pump_in = omega arith; outlet_in = omega arith; apart = λ e. omega (arith, e); joins = tt };
    two = omega arith;
    most = omega arith;
    held = omega arith;
    limited = tt;
  },
  h,
)

module _ (most : ℕ) (held : most ≤ 64) (places : ℕ) (w : Network) (fits : Fits most w) where
  abbrev Good : Result Network Refusal → Type 0
  Good r = Fits most (accepted w r)

  placed : (r : Result Network Refusal) → Good r → Good (with_places most places r)
  placed r h = cond_both (ltb places most) (Err FewPlaces) r Good (λ _. fits) (λ _. h)

  numbered : (k : ℕ) (r : Result Network Refusal) → (k < size w → Good r) → Good (with_number w k r)
  numbered k r h = cond_both (ltb k (size w)) r (Err NoSuchPipe) Good (λ e. h (ltb-true k (size w) e)) (λ _. fits)

  loaded_fits : (text : List ℕ) (r : Result (Network × ℕ) Refusal) → loading most places text ≡ r → Fits most (accepted_sheet w r)
  loaded_fits text (Ok x) e = loaded_sound most held places text x.0 x.1 e
  loaded_fits text (Err d) e = fits

  next_fits : (q : Request) → Fits most (next_network most places w q)
  next_fits (Load text) = loaded_fits text.now (loading most places text.now) refl
  next_fits (Open k) = placed _ (numbered k _ (λ l. cond_both (is_open (pipe w k).valve) (Err AlreadyOpen) (Ok (changes.with_pipe_open w k)) Good
      (λ _. fits) (λ _. (valve_sound w k _ l fits.0, fits.1))))
  next_fits (Close k) = placed _ (numbered k _ (λ l. cond_both (is_open (pipe w k).valve) (Ok (changes.with_pipe_closed w k)) (Err AlreadyClosed) Good
      (λ _. (valve_sound w k _ l fits.0, fits.1)) (λ _. fits)))
  next_fits (Limit k n) = placed _ (numbered k _ (λ l. cond_both (leb 1 n && leb n 60000) (Ok (changes.with_pipe_limit w k n)) (Err (OutOfRange 0)) Good
      (λ e.
      let p = and_parts (leb 1 n) (leb n 60000) e in
      (with_sound w k (with_limit (pipe w k) n) l refl refl (record { some = leb-true 1 n p.0; few = leb-true n 60000 p.1 }) fits.0, fits.1))
      (λ _. fits)))
  next_fits (Pattern letters) = placed _ (cond_both (eqb (length letters.now) (size w)) (cond (is_pattern letters.now) (Ok (patterned w letters.now)) (Err (WrongLetter 0))) (Err (BadLine 0)) Good
      (λ _. cond_both (is_pattern letters.now) (Ok (patterned w letters.now)) (Err (WrongLetter 0)) Good (λ _. (patterned_sound w letters.now fits.0, fits.1)) (λ _. fits))
      (λ _. fits))
  next_fits Report = fits
  next_fits (Governing k) = fits
  next_fits (WriteSheet space) = fits
  next_fits (ReadFlow row) = fits

pub after_fits : (most : ℕ) → most ≤ 64 → (room : ℕ) (w : Network) → Fits most w → (cs : List Call) → Fits most (network_after most room w cs)
after_fits most held room w fits [] = fits
after_fits most held room w fits (c ∷ cs) = after_fits most held room (next_network most (min c.places room) w c.request) (next_fits most held (min c.places room) w fits c.request) cs
