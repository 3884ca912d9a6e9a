-- From what a search answers to an augmentation.
use Rattle.std.proofs.Common.{◌≡◌, ℕ, ◌<◌, ◌≤◌, List, sym, ap, ◌∙◌, subst}
use Rattle.std.specs.List.{AllByRecursion}
use Rattle.network.specs.declared.step.Step.{Step}
use Rattle.network.specs.declared.table.Table.{Table}
use Rattle.network.specs.Pipes.{network_of, flow_of}
use Rattle.network.specs.Pushing.{pushed}
use Rattle.network.specs.Residual.{weight}
use Rattle.network.proofs.Pushing.{path_once}
use Rattle.paths.specs.declared.label.Label.{Label}
use Rattle.paths.specs.BestPaths.{BestAt, via_at}
use Rattle.paths.proofs.Tables.{sound, size_is}
use Rattle.paths.proofs.Walks.{short}
use Rattle.interface.specs.Augmentations.{least_weight_of, Augments}
use Rattle.augmenting.specs.Chains.{spelled, Takes, Once}
use Rattle.augmenting.proofs.Chained.{chain_spelled}
use Rattle.augmenting.proofs.Weights.{least_all, path_some, path_takes, path_inside}

module _ {L Λ : Type 0} {means : L → Λ} {good : Λ → Λ → Type 0} {start : Λ} {extended : Λ → ℕ → Λ} (t : Table) (a b : ℕ) (ls : List (Label L)) (l : Label L) (a_in : a < t.junctions)
    (best : BestAt (network_of t) (flow_of t) a b means good start extended ls l) where
  abbrev pub steps_back : List Step
  steps_back = spelled (network_of t) (via_at ls) t.junctions b

  spelled_is : steps_back ≡ best.steps
  spelled_is = chain_spelled (network_of t) (via_at ls) a best.steps t.junctions b (short (sound t) a a_in best.steps b best.leads) best.spelled

  pub spelled_inside : AllByRecursion (λ s. s.pipe < t.count) steps_back
  spelled_inside = subst (λ (ss : List Step). AllByRecursion (λ s. s.pipe < t.count) ss) (sym spelled_is) (path_inside (network_of t) (flow_of t) a t.count (size_is t) best.steps b best.leads)

  pub spelled_once : Once steps_back
  spelled_once = subst Once (sym spelled_is) (path_once (network_of t) (flow_of t) a best.steps b best.leads)

  module _ (most c : ℕ) (is : c ≡ least_weight_of (network_of t) (flow_of t) most steps_back) where
    amount : c ≡ least_weight_of (network_of t) (flow_of t) most best.steps
    amount = is ∙ ap (least_weight_of (network_of t) (flow_of t) most) spelled_is

    weights : AllByRecursion (λ s. c ≤ weight (network_of t) (flow_of t) s) best.steps
    weights = subst (λ (x : ℕ). AllByRecursion (λ s. x ≤ weight (network_of t) (flow_of t) s) best.steps) (sym amount) (least_all (network_of t) (flow_of t) most best.steps)

    pub spelled_takes : AllByRecursion (Takes (network_of t) (flow_of t) c) steps_back
    spelled_takes = subst (λ (ss : List Step). AllByRecursion (Takes (network_of t) (flow_of t) c) ss) (sym spelled_is) (path_takes (network_of t) (flow_of t) a c best.steps b best.leads weights)

    pub augments : 0 < most → (g : List ℕ) → g ≡ pushed (flow_of t) c steps_back → Augments (network_of t) good start extended a b most (flow_of t) c g
    augments h g e = record {
      steps = best.steps;
      leads = best.leads;
      best = best.best;
      amount_is = amount;
      some = subst (λ (x : ℕ). 0 < x) (sym amount) (path_some (network_of t) (flow_of t) a most best.steps b best.leads h);
      gives = e ∙ ap (pushed (flow_of t) c) spelled_is;
    }
