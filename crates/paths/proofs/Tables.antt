-- The steps of a table.
use Rattle.std.proofs.Common.{◌≡◌, ℕ, ◌-◌, ◌<◌, ◌≤◌, List, get_or, sym, ap, ◌∙◌, subst, ap₂, arith}
use Rattle.std.proofs.lemmas.List.{get_or_default}
use Rattle.network.specs.declared.valve.Valve.{Valve}
use Rattle.network.specs.declared.valve.Valve.TheVariants.{Open, Closed}
use Rattle.network.specs.declared.row.Row.{Row}
use Rattle.network.specs.declared.step.Direction.{Direction}
use Rattle.network.specs.declared.step.Direction.TheVariants.{Along, Against}
use Rattle.network.specs.declared.step.Step.{Step}
use Rattle.network.specs.declared.table.Table.{Table}
use Rattle.network.specs.Valves.{room}
use Rattle.network.specs.Rows.{no_row, SoundFlow, Joined, Limited}
use Rattle.network.specs.Pipes.{pipe_of, network_of, flow_of}
use Rattle.network.specs.Residual.{start_by, end_by, weight_by, pipe, size, carried, tail, head, weight}
use Rattle.paths.specs.declared.label.Label.{Label}
use Rattle.paths.specs.Searches.{Done}
use Rattle.network.proofs.TableFacts.{table_size, table_pipe, table_carried}
use Rattle.paths.proofs.Walks.{Sound}

-- what code reads past the end
abbrev pub read_row : Row
read_row = record { from = 0; to = 0; limit = 0; flow = 0; valve = Open }

ends_by : (d : Direction) (n : ℕ) (r : Row) → Joined n r → (start_by d (pipe_of r) < n) × (end_by d (pipe_of r) < n) × (start_by d (pipe_of r) ≡ end_by d (pipe_of r) → ⊥)
ends_by Along n r j = (j.0, j.1, j.2)
ends_by Against n r j = (j.1, j.0, λ e. j.2 (sym e))

light_by : (d : Direction) (r : Row) → Limited r → SoundFlow r → weight_by d (pipe_of r) r.flow ≤ 60000
light_by d r l s = go d r.valve s
  where
    go : (d : Direction) (v : Valve) → r.flow ≤ room v r.limit → weight_by d (record { from = r.from; to = r.to; limit = r.limit; valve = v }) r.flow ≤ 60000
    go Along Open h = let a = l.1 in omega arith
    go Along Closed h = omega arith
    go Against Open h = let a = l.1 in omega arith
    go Against Closed h = omega arith

module _ (t : Table) where
  -- inside the table the default does not matter
  row_read : (k : ℕ) → k < t.count → get_or t.rows k read_row ≡ get_or t.rows k no_row
  row_read k h = get_or_default t.rows k read_row no_row (let a = t.long in let b = t.held in omega arith)

  pub sound_read : (k : ℕ) → k < t.count → SoundFlow (get_or t.rows k read_row)
  sound_read k h = subst (λ (r : Row). SoundFlow r) (sym (row_read k h)) (t.flowing k h)

  pub ends_read : (d : Direction) (k : ℕ) → k < t.count → (start_by d (pipe_of (get_or t.rows k read_row)) < t.junctions) × (end_by d (pipe_of (get_or t.rows k read_row)) < t.junctions) × (start_by d (pipe_of (get_or t.rows k read_row)) ≡ end_by d (pipe_of (get_or t.rows k read_row)) → ⊥)
  ends_read d k h = ends_by d t.junctions (get_or t.rows k read_row) (subst (λ (r : Row). Joined t.junctions r) (sym (row_read k h)) (t.joined k h))

  pub size_is : size (network_of t) ≡ t.count
  size_is = table_size t

  pub pipe_is : (k : ℕ) → k < t.count → pipe (network_of t) k ≡ pipe_of (get_or t.rows k read_row)
  pipe_is k h = table_pipe t k h ∙ ap pipe_of (sym (row_read k h))

  pub carried_is : (k : ℕ) → k < t.count → carried (flow_of t) k ≡ (get_or t.rows k read_row).flow
  carried_is k h = table_carried t k h ∙ ap (λ (r : Row). r.flow) (sym (row_read k h))

  module _ (s : Step) (h : s.pipe < t.count) where
    tail_is : start_by s.direction (pipe_of (get_or t.rows s.pipe read_row)) ≡ tail (network_of t) s
    tail_is = sym (ap (start_by s.direction) (pipe_is s.pipe h))

    head_is : end_by s.direction (pipe_of (get_or t.rows s.pipe read_row)) ≡ head (network_of t) s
    head_is = sym (ap (end_by s.direction) (pipe_is s.pipe h))

    weight_is : weight_by s.direction (pipe_of (get_or t.rows s.pipe read_row)) (get_or t.rows s.pipe read_row).flow ≡ weight (network_of t) (flow_of t) s
    weight_is = sym (ap₂ (weight_by s.direction) (pipe_is s.pipe h) (carried_is s.pipe h))

    -- what code reads
    pub tail_read : (u : ℕ) → u ≡ start_by s.direction (pipe_of (get_or t.rows s.pipe read_row)) → u ≡ tail (network_of t) s
    tail_read u e = e ∙ tail_is

    pub head_read : (u : ℕ) → u ≡ end_by s.direction (pipe_of (get_or t.rows s.pipe read_row)) → u ≡ head (network_of t) s
    head_read u e = e ∙ head_is

    pub weight_read : (u : ℕ) → u ≡ weight_by s.direction (pipe_of (get_or t.rows s.pipe read_row)) (get_or t.rows s.pipe read_row).flow → u ≡ weight (network_of t) (flow_of t) s
    weight_read u e = e ∙ weight_is

    pub light_is : weight (network_of t) (flow_of t) s ≤ 60000
    light_is =
        subst (λ (n : ℕ). n ≤ 60000) weight_is
        (light_by s.direction (get_or t.rows s.pipe read_row)
        (subst (λ (r : Row). Limited r) (sym (row_read s.pipe h)) (t.limited s.pipe h)) (sound_read s.pipe h))

    pub joins_is : (tail (network_of t) s < t.junctions) × (head (network_of t) s < t.junctions) × (tail (network_of t) s ≡ head (network_of t) s → ⊥)
    joins_is =
        let e = ends_read s.direction s.pipe h in
        (let p = tail_is in let q = e.0 in omega arith, let p = head_is in let q = e.1 in omega arith, λ z. e.2 (tail_is ∙ z ∙ sym head_is))

  pub inside_is : (s : Step) → s.pipe < size (network_of t) → s.pipe < t.count
  inside_is s h = let e = size_is in omega arith

  pub sound : Sound (network_of t) (flow_of t)
  sound = record {
    few = t.most;
    joins = λ s h. joins_is s (inside_is s h);
    light = λ s h. light_is s (inside_is s h);
  }

  closed_absent : (s : Step) → s.pipe < t.count → (get_or t.rows s.pipe read_row).valve ≡ Closed → weight (network_of t) (flow_of t) s ≡ 0
  closed_absent s h e = sym (weight_is s h) ∙ go s.direction (get_or t.rows s.pipe read_row) e
    where
      go : (d : Direction) (r : Row) → r.valve ≡ Closed → weight_by d (pipe_of r) r.flow ≡ 0
      go Along r e = ap (λ (v : Valve). room v (r.limit - r.flow)) e
      go Against r e = ap (λ (v : Valve). room v r.flow) e

  -- a closed pipe has no step to relax
  pub done_closed : {L Λ : Type 0} (means : L → Λ) (good : Λ → Λ → Type 0) (none : Λ) (extended : Λ → ℕ → Λ) (ls : List (Label L)) (k : ℕ) → k < t.count → (get_or t.rows k read_row).valve ≡ Closed
      → Done (network_of t) (flow_of t) means good none extended ls ls (λ j. j ≡ k)
  done_closed means good none extended ls k h e s q r =
      let i : s.pipe < t.count = omega arith in
      let z : weight (network_of t) (flow_of t) s ≡ 0 = closed_absent s i (ap (λ (j : ℕ). (get_or t.rows j read_row).valve) q ∙ e) in
      let y = r.heavy in
      absurd (omega arith)
