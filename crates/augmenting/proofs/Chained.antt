-- Following labels back, step by step.
use Rattle.std.proofs.Common.{◌≡◌, ℕ, zero, suc, ◌-◌, ◌<◌, List, [], ◌∷◌, length, get_or, Some, None, Option, ap, ◌∙◌, subst, arith}
use Rattle.std.specs.List.{AllByRecursion}
use Rattle.network.specs.declared.step.Step.{Step}
use Rattle.network.specs.Network.{Network}
use Rattle.network.specs.Residual.{tail, size}
use Rattle.paths.specs.declared.label.Label.{Label}
use Rattle.paths.specs.BestPaths.{Chain, via_at}
use Rattle.paths.proofs.Labels.{at_read}
use Rattle.augmenting.specs.declared.walk.Walk.{Walk}
use Rattle.augmenting.specs.Chains.{spelled}
use Rattle.augmenting.specs.Walks.{left, Stands}

module _ (w : Network) (via : ℕ → Option Step) where
  by : Option Step → ℕ → List Step
  by o n = elim o [ None ↦ [] | Some s ↦ s ∷ spelled w via n (tail w s) ]

  -- with a turn to go
  spelled_more : (n b : ℕ) (s : Step) → 0 < n → via b ≡ Some s → spelled w via n b ≡ s ∷ spelled w via (n - 1) (tail w s)
  unfolding by
  spelled_more n b s h e = ap (λ (m : ℕ). spelled w via m b) (let q : n ≡ suc (n - 1) = omega arith in q) ∙ ap (λ (o : Option Step). by o (n - 1)) e

  -- a chain is spelled whole where there are turns enough
  pub chain_spelled : (a : ℕ) (ss : List Step) (n b : ℕ) → length ss < n → Chain w a via ss b → spelled w via n b ≡ ss
  unfolding by
  chain_spelled a [] zero b h c = absurd (omega arith)
  chain_spelled a [] (suc n) b h c = ap (λ (o : Option Step). by o n) c.1
  chain_spelled a (s ∷ ss) zero b h c = absurd (omega arith)
  chain_spelled a (s ∷ ss) (suc n) b h c =
      ap (λ (o : Option Step). by o n) c.0 ∙ ap (λ (l : List Step). s ∷ l) (chain_spelled a ss n (tail w s) (omega arith) c.1)

-- a walk that has a turn left, and stands at a junction whose label is l
module _ {L : Type 0} (w : Network) (walk : Walk L) (stands : Stands w walk) (more : 0 < walk.turns) (l : Label L) (is : l ≡ get_or walk.labels.now walk.at l) (s : Step) (step : l.via ≡ Some s) where
  pub left_more : left w walk ≡ s ∷ left w (record walk { at = tail w s; turns = walk.turns - 1 })
  left_more = spelled_more w (via_at walk.labels.now) walk.turns walk.at s more
      (at_read (λ (l : Label L). l.via) None walk.labels.now walk.at l (omega (arith, stands.at_junction, stands.labelled)) is ∙ step)

  left_inside : AllByRecursion (λ s. s.pipe < size w) (s ∷ left w (record walk { at = tail w s; turns = walk.turns - 1 }))
  left_inside = subst (λ (ss : List Step). AllByRecursion (λ s. s.pipe < size w) ss) left_more stands.inside

  pub step_inside : s.pipe < size w
  step_inside = left_inside.0

  pub stands_back : tail w s < w.junctions → Stands w (record walk { at = tail w s; turns = walk.turns - 1 })
  stands_back h = record { at_junction = h; labelled = stands.labelled; inside = left_inside.1 }
