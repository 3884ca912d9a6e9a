-- Parts of a repair: leading back, while it is not yet known that all was led; and closing by a letter.
use Rattle.std.specs.Prelude.{◌≡◌, ℕ, ◌<◌, ◌≢◌, List, Some, Option}
use Rattle.network.specs.Network.{Network}
use Rattle.network.specs.declared.valve.Valve as valve
use Rattle.network.specs.Changes.{with_valve, with_pipe_closed}
use Rattle.network.specs.Residual.{pipe}
use Rattle.formats.specs.declared.setting.Setting.{Setting}
use Rattle.formats.specs.declared.setting.Setting.TheVariants.{Closed}
use Rattle.interface.specs.Augmentations.{NoPath, Leads}
use Rattle.interface.specs.Works.{Lowers}

-- between two junctions an amount was led until all was led or no path was left; at one junction nothing was done
pub record GivesBack {Λ : Type 0} (w : Network) (good : Λ → Λ → Type 0) (start : Λ) (extended : Λ → ℕ → Λ) (a b d : ℕ) (f : List ℕ) (n : ℕ) (g : List ℕ) : Type 0 where
  pub at_one : a ≡ b → (n ≡ 0) × (g ≡ f)
  pub between : a ≢ b → (e : ℕ) × Leads w good start extended a b d f n e g × (0 < e → NoPath w g a b)

-- the setting closes pipe k, or leaves network and flow as they were
pub record ClosesBy {Λ : Type 0} (good : Λ → Λ → Type 0) (start : Λ) (extended : Λ → ℕ → Λ) (w : Network) (f : List ℕ) (k : ℕ) (o : Option Setting) (u : Network) (n : ℕ) (g : List ℕ) : Type 0 where
  pub closes : o ≡ Some Closed → (u ≡ with_pipe_closed w k) × Lowers good start extended w f k (with_valve (pipe w k) valve.TheVariants.Closed) 0 n g
  pub leaves : (o ≢ Some Closed) → (u ≡ w) × (n ≡ 0) × (g ≡ f)
