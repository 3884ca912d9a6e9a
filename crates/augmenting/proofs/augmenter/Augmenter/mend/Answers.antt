use Rattle.std.proofs.Common.{◌≡◌, ℕ, ◌+◌, ◌<◌, List, ◌∙◌, subst}
use Rattle.network.specs.declared.table.Table.{Table}
use Rattle.network.specs.Network.{Network}
use Rattle.network.specs.Pipes.{network_of, flow_of}
use Rattle.network.specs.Repair.{Torn}
use Rattle.network.proofs.TableFacts.{table_wired}
use Rattle.interface.specs.Augmentations.{NoPath, Leads, Mends}
use Rattle.augmenting.specs.Legs.{GivesBack}
use Rattle.augmenting.proofs.Leading.{mends}
use Rattle.augmenting.proofs.augmenter.Augmenter.mend.Goals as goal

module _ {Λ : Type 0} {good : Λ → Λ → Type 0} {start : Λ} {extended : Λ → ℕ → Λ} (t u v : Table) (i j d : ℕ) (i-in : i < t.junctions) (j-in : j < t.junctions)
    (torn : (x : ℕ) × Torn (network_of t) (flow_of t) i j x x d d) (same : network_of u ≡ network_of t) (again : network_of v ≡ network_of u) where
  legs : (n e m o : ℕ) (g : List ℕ) → Leads (network_of t) good start extended i j d (flow_of t) n e (flow_of u) → (0 < e → NoPath (network_of t) (flow_of u) i j)
      → GivesBack (network_of u) good start extended i t.pump e (flow_of u) m (flow_of v) → GivesBack (network_of v) good start extended t.outlet j e (flow_of v) o g
      → Mends (network_of t) good start extended i j d (flow_of t) (n + m + o) g
  legs n e m o g led none back forth =
      mends (network_of t) (table_wired t) i j i-in j-in torn.0 d (flow_of t) torn.1 n e (flow_of u) led none
      m (flow_of v) (subst (λ (w : Network). GivesBack w good start extended i t.pump e (flow_of u) m (flow_of v)) same back)
      o g (subst (λ (w : Network). GivesBack w good start extended t.outlet j e (flow_of v) o g) (again ∙ same) forth)

pub returns-clause-mends : goal.returns-clause-mends
returns-clause-mends g c =
    let t = c.args.self.now.table.now in
    legs t c.lead-round.new.self.table.now c.give_back-back.new.self.table.now c.args.from c.args.to c.args.lost c.requires.from c.requires.to c.requires.torn c.lead-round.ensures.same c.give_back-back.ensures.same
    c.lead-round.result.count c.lead-round.result.rest c.give_back-back.result c.give_back-forth.result (flow_of c.give_back-forth.new.self.table.now)
    c.lead-round.ensures.leads c.lead-round.ensures.blocked c.give_back-back.ensures.gives c.give_back-forth.ensures.gives
