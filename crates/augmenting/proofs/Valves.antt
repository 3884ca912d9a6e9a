-- Rows of a table written one after the other: all dry, or their valves set by letters.
use Rattle.std.proofs.Common.{◌≡◌, ℕ, zero, suc, ◌+◌, ◌<◌, List, [], ◌∷◌, length, get_or, take, set, replicate, Some, None, Option, sym, refl, ap, ◌∙◌, add-one, arith}
use lib.ListN.{get_or-replicate, length-replicate}
use Rattle.std.proofs.lemmas.List.{ext_get_or}
use Rattle.network.specs.declared.table.Table.{Table}
use Rattle.network.specs.declared.valve.Valve.{Valve}
use Rattle.network.specs.Changes.{with_pipe, with_limit, with_valve}
use Rattle.network.specs.Flows.{dry}
use Rattle.network.specs.Network.{Pipe, Network}
use Rattle.network.specs.Pipes.{network_of, flow_of}
use Rattle.network.specs.Residual.{nowhere, pipe, size, carried}
use Rattle.network.proofs.TableFacts.{table_size, table_within}
use Rattle.formats.specs.declared.setting.Setting.{Setting}
use Rattle.formats.specs.Letters.{setting_of}
use Rattle.interface.specs.Verdicts.{set_by, each_set_by, patterned}
use Rattle.augmenting.specs.Settings.{valve_by}

pub same_count : (t u : Table) → network_of t ≡ network_of u → t.count ≡ u.count
same_count t u e = sym (table_size t) ∙ ap size e ∙ table_size u

-- pipes that carry nothing are dry
pub all_dry : (t : Table) → ((i : ℕ) → i < t.count → carried (flow_of t) i ≡ 0) → flow_of t ≡ dry (network_of t)
all_dry t each =
    let long : length (flow_of t) ≡ size (network_of t) = (table_within t).each in
    ext_get_or 0 (flow_of t) (replicate (size (network_of t)) 0) (long ∙ sym (length-replicate (size (network_of t)) 0))
    (λ i h. let inside : i < size (network_of t) = omega arith in each i (omega (arith, table_size t)) ∙ sym (get_or-replicate (size (network_of t)) i 0 0 inside))

-- a pipe with its valve set by a letter
pub set_is : (o : Option Setting) (p : Pipe) → with_valve (with_limit p p.limit) (valve_by o p.valve) ≡ set_by o p
set_is None p = refl
set_is (Some s) p = refl

pub lettered_length : (bs : List ℕ) (ps : List Pipe) → length (each_set_by bs ps) ≡ length ps
lettered_length [] ps = refl
lettered_length (b ∷ bs) [] = refl
lettered_length (b ∷ bs) (p ∷ ps) = ap suc (lettered_length bs ps)

pub set_count : (t u : Table) (bs : List ℕ) → network_of t ≡ patterned (network_of u) bs → t.count ≡ u.count
set_count t u bs e = sym (table_size t) ∙ ap size e ∙ lettered_length bs (network_of u).pipes ∙ table_size u

-- the pipe of the next letter is as it was
lettered_next : (bs : List ℕ) (ps : List Pipe) (k : ℕ) → k < length bs → k < length ps → get_or (each_set_by (take k bs) ps) k nowhere ≡ get_or ps k nowhere
lettered_next [] ps k h i = absurd (omega arith)
lettered_next (b ∷ bs) [] k h i = absurd (omega arith)
lettered_next (b ∷ bs) (p ∷ ps) zero h i = refl
lettered_next (b ∷ bs) (p ∷ ps) (suc k) h i = lettered_next bs ps k (omega arith) (omega arith)

lettered_more : (bs : List ℕ) (ps : List Pipe) (k : ℕ) → k < length bs → k < length ps → set (each_set_by (take k bs) ps) k (set_by (setting_of (get_or bs k 0)) (get_or ps k nowhere)) ≡ each_set_by (take (suc k) bs) ps
lettered_more [] ps k h i = absurd (omega arith)
lettered_more (b ∷ bs) [] k h i = absurd (omega arith)
lettered_more (b ∷ bs) (p ∷ ps) zero h i = refl
lettered_more (b ∷ bs) (p ∷ ps) (suc k) h i = ap (λ (qs : List Pipe). set_by (setting_of b) p ∷ qs) (lettered_more bs ps k (omega arith) (omega arith))

module _ (w : Network) (bs : List ℕ) (k : ℕ) (h : k < length bs) (i : k < size w) where
  pub next_pipe_in : pipe (patterned w (take k bs)) k ≡ pipe w k
  next_pipe_in = lettered_next bs w.pipes k h i

  -- the next valve set
  pub next_set : (u : Network) → u ≡ patterned w (take k bs) → (l : ℕ) (v : Valve) → l ≡ (pipe w k).limit → v ≡ valve_by (setting_of (get_or bs k 0)) (pipe w k).valve
      → with_pipe u k (with_valve (with_limit (pipe u k) l) v) ≡ patterned w (take (k + 1) bs)
  next_set u e l v p q =
      let here : with_valve (with_limit (pipe u k) l) v ≡ set_by (setting_of (get_or bs k 0)) (pipe w k) =
      (λ x. with_valve (with_limit ((ap (λ (u : Network). pipe u k) e ∙ next_pipe_in) x) (p x)) (q x)) ∙ set_is (setting_of (get_or bs k 0)) (pipe w k) in
      (λ x. with_pipe (e x) k (here x))
      ∙ ap (λ (ps : List Pipe). record { junctions = w.junctions; pump = w.pump; outlet = w.outlet; pipes = ps }) (lettered_more bs w.pipes k h i)
      ∙ ap (λ (n : ℕ). patterned w (take n bs)) (sym (add-one k))
