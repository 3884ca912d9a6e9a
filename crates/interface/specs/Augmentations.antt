-- Augmentations: an amount is added along a best path. `good`, `start` and `extended` are those of the path metric.
use Rattle.std.specs.Prelude.{◌≡◌, ℕ, suc, ◌+◌, ◌-◌, ◌<◌, min, ◌≢◌, List, [], ◌∷◌}
use Rattle.network.specs.declared.step.Step.{Step}
use Rattle.network.specs.Network.{Network}
use Rattle.network.specs.Paths.{Path}
use Rattle.network.specs.Pushing.{pushed}
use Rattle.network.specs.Residual.{weight}
use Rattle.paths.specs.BestPaths.{length_of}

-- the smallest weight on these steps, or `most` if that is less
abbrev pub least_weight_of : Network → List ℕ → ℕ → List Step → ℕ
least_weight_of w f most [] = most
least_weight_of w f most (s ∷ ss) = least_weight_of w f (min most (weight w f s)) ss

-- no path leads from a to b
abbrev pub NoPath : Network → List ℕ → ℕ → ℕ → Type 0
NoPath w f a b = (ss : List Step) → Path w f a ss b → ⊥

-- from f to g, by the amount c along a path of best length from a to b: the smallest weight on it, or `most` if that is less
pub record Augments {Λ : Type 0} (w : Network) (good : Λ → Λ → Type 0) (start : Λ) (extended : Λ → ℕ → Λ) (a b most : ℕ) (f : List ℕ) (c : ℕ) (g : List ℕ) : Type 0 where
  pub steps : List Step
  pub leads : Path w f a steps b
  pub best : (others : List Step) → Path w f a others b → good (length_of w f start extended steps) (length_of w f start extended others)
  pub amount_is : c ≡ least_weight_of w f most steps
  pub some : 0 < c
  pub gives : g ≡ pushed f c steps

-- n augmentations from pump to outlet lead from f to g. No weight exceeds 60,000, so each amount is the smallest weight on its path.
pub data Fills {Λ : Type 0} (w : Network) (good : Λ → Λ → Type 0) (start : Λ) (extended : Λ → ℕ → Λ) (f : List ℕ) : ℕ → List ℕ → Type 0 where
  begun : Fills w good start extended f 0 f
  more : {n c : ℕ} {g h : List ℕ} → Fills w good start extended f n g → Augments w good start extended w.pump w.outlet 60000 g c h → Fills w good start extended f (suc n) h

-- Of d litres that are to be led from a to b, n augmentations leave e to be led, and lead from f to g.
-- Each amount is the smallest weight on its path, or what is still to be led if that is less.
pub data Leads {Λ : Type 0} (w : Network) (good : Λ → Λ → Type 0) (start : Λ) (extended : Λ → ℕ → Λ) (a b d : ℕ) (f : List ℕ) : ℕ → ℕ → List ℕ → Type 0 where
  none_led : Leads w good start extended a b d f 0 d f
  some_led : {n e c : ℕ} {g h : List ℕ} → Leads w good start extended a b d f n e g → Augments w good start extended a b e g c h → Leads w good start extended a b d f (suc n) (e - c) h

-- all of d litres are led from a to b; where these are one junction, nothing is to be done
pub data Returns {Λ : Type 0} (w : Network) (good : Λ → Λ → Type 0) (start : Λ) (extended : Λ → ℕ → Λ) (a b d : ℕ) (f : List ℕ) : ℕ → List ℕ → Type 0 where
  at_home : a ≡ b → Returns w good start extended a b d f 0 f
  led_back : {n : ℕ} {g : List ℕ} → a ≢ b → Leads w good start extended a b d f n 0 g → Returns w good start extended a b d f n g

-- A flow that lost d litres on the way from i to j is mended by n augmentations, from f to g: by other ways from i to j while there are any,
-- then what remains from i back to the pump, and from the outlet to j.
pub record Mends {Λ : Type 0} (w : Network) (good : Λ → Λ → Type 0) (start : Λ) (extended : Λ → ℕ → Λ) (i j d : ℕ) (f : List ℕ) (n : ℕ) (g : List ℕ) : Type 0 where
  pub round : ℕ
  pub back : ℕ
  pub forth : ℕ
  pub rest : ℕ
  pub led : List ℕ
  pub returned : List ℕ
  pub by_other_ways : Leads w good start extended i j d f round rest led
  pub no_other_way : 0 < rest → NoPath w led i j
  pub to_pump : Returns w good start extended i w.pump rest led back returned
  pub from_outlet : Returns w good start extended w.outlet j rest returned forth g
  pub counts : n ≡ round + back + forth
