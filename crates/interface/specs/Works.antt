-- How an engine comes from the flow that it kept before a change to the one that it keeps after it.
use Rattle.std.specs.Prelude.{◌≡◌, ℕ, suc, ◌+◌, ◌-◌, ◌<◌, ◌≤◌, List, Some, Ok, Err, Result, ℤ, ◌≢◌, slice_index, slice_set}
use Rattle.network.specs.declared.valve.Valve as valve
use Rattle.network.specs.Changes.{with_pipe, with_limit, with_valve, with_pipe_open, with_pipe_closed, with_pipe_limit}
use Rattle.network.specs.Flows.{dry}
use Rattle.network.specs.Network.{Pipe, Network}
use Rattle.network.specs.Residual.{pipe, size, carried}
use Rattle.formats.specs.declared.setting.Setting.TheVariants.{Closed}
use Rattle.formats.specs.Letters.{setting_of}
use Rattle.interface.specs.Augmentations.{Fills, Mends}
use Rattle.formats.specs.declared.refusal.Refusal.{Refusal}
use Rattle.interface.specs.Verdicts.{change, patterned}

-- what a call makes of a network: another one, one pipe opened, closed or limited, or all valves set by letters
pub data Change : Type 0 where
  loaded : Network → Change
  opened : ℕ → Change
  closed : ℕ → Change
  limited : ℕ → ℕ → Change
  lettered : List ℕ → Change

abbrev pub after : Network → Change → Network
after w (loaded u) = u
after w (opened k) = with_pipe_open w k
after w (closed k) = with_pipe_closed w k
after w (limited k l) = with_pipe_limit w k l
after w (lettered bs) = patterned w bs

-- a warm engine repairs the flow that it kept; a cold one begins from dry pipes
pub data Manner : Type 0 where
  warm : Manner
  cold : Manner

-- pipe k becomes p, and keeps x litres of what it carried: the rest is led by other ways, or given back
abbrev pub Lowers : {Λ : Type 0} → (Λ → Λ → Type 0) → Λ → (Λ → ℕ → Λ) → Network → List ℕ → ℕ → Pipe → ℕ → ℕ → List ℕ → Type 0
Lowers good start extended w f k p x n g = Mends (with_pipe w k p) good start extended (pipe w k).from (pipe w k).to (carried f k - x) (slice_set f k x) n g

-- of the first k pipes, those that the letters close were closed one after the other
pub data Closings {Λ : Type 0} (good : Λ → Λ → Type 0) (start : Λ) (extended : Λ → ℕ → Λ) (w : Network) (f : List ℕ) (bs : List ℕ) : ℕ → Network → ℕ → List ℕ → Type 0 where
  none_closed : Closings good start extended w f bs 0 w 0 f
  one_closed : {k n m : ℕ} {u : Network} {g h : List ℕ} → Closings good start extended w f bs k u n g → setting_of (slice_index bs k) ≡ Some Closed
      → Lowers good start extended u g k (with_valve (pipe u k) valve.TheVariants.Closed) 0 m h → Closings good start extended w f bs (suc k) (with_pipe_closed u k) (n + m) h
  one_left : {k n : ℕ} {u : Network} {g : List ℕ} → Closings good start extended w f bs k u n g → (setting_of (slice_index bs k) ≢ Some Closed) → Closings good start extended w f bs (suc k) u n g

-- closings in number order, then all openings together, and augmentations from pump to outlet
pub record PatternWork {Λ : Type 0} (good : Λ → Λ → Type 0) (start : Λ) (extended : Λ → ℕ → Λ) (w : Network) (f : List ℕ) (bs : List ℕ) (n : ℕ) (g : List ℕ) : Type 0 where
  pub shut : Network
  pub mended : List ℕ
  pub closing_count : ℕ
  pub filling_count : ℕ
  pub closes : Closings good start extended w f bs (size w) shut closing_count mended
  pub opens : Fills (patterned w bs) good start extended mended filling_count g
  pub counts : n ≡ closing_count + filling_count

-- n augmentations of a warm engine
abbrev pub WarmWork : {Λ : Type 0} → (Λ → Λ → Type 0) → Λ → (Λ → ℕ → Λ) → Network → List ℕ → Change → ℕ → List ℕ → Type 0
WarmWork good start extended w f (loaded u) n g = Fills u good start extended (dry u) n g
WarmWork good start extended w f (opened k) n g = Fills (with_pipe_open w k) good start extended f n g
WarmWork good start extended w f (closed k) n g = Lowers good start extended w f k (with_valve (pipe w k) valve.TheVariants.Closed) 0 n g
WarmWork good start extended w f (limited k l) n g = (l < carried f k → Lowers good start extended w f k (with_limit (pipe w k) l) l n g) × (carried f k ≤ l → Fills (with_pipe_limit w k l) good start extended f n g)
WarmWork good start extended w f (lettered bs) n g = PatternWork good start extended w f bs n g

-- n augmentations of an engine lead from the flow f of w, or from dry pipes, to the flow g of the network after the change
abbrev pub Works : {Λ : Type 0} → Manner → (Λ → Λ → Type 0) → Λ → (Λ → ℕ → Λ) → Network → List ℕ → Change → ℕ → List ℕ → Type 0
Works warm good start extended w f c n g = WarmWork good start extended w f c n g
Works cold good start extended w f c n g = Fills (after w c) good start extended (dry (after w c)) n g

-- a call that changes the network, by its verdict: it is carried out, and answers the change of the greatest value and the number of augmentations;
-- or it is refused, and engine and workspace are as they were
abbrev pub Changes : {E P : Type 0} → (E → Network) → (E → Change → E → ℕ → Type 0) → Result Network Refusal → Change → E → E → List P → List P → Result (ℤ × ℕ) Refusal → Type 0
Changes meaning counted verdict c old new before after (Ok d) = (verdict ≡ Ok (meaning new)) × (d.0 ≡ change (meaning old) (meaning new)) × counted old c new d.1
Changes meaning counted verdict c old new before after (Err e) = (verdict ≡ Err e) × (new ≡ old) × (after ≡ before)
