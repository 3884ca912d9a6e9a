-- What passes a junction, pipe by pipe.
use Rattle.std.proofs.Common.{◌≡◌, ℕ, zero, suc, ◌+◌, ◌*◌, ◌^◌, ◌<◌, ◌≤◌, Bool, true, false, cond, eqb, List, [], ◌∷◌, get_or, take, sum_by, filter, sym, refl, ap, ◌∙◌, ap₂, add-one, zero-add, arith}
use Rattle.std.proofs.lemmas.List.Sums.{sum-map, sum_by-cons, sum_by_more}
use Rattle.network.specs.declared.row.Row.{Row}
use Rattle.network.specs.declared.step.Direction.{Direction}
use Rattle.network.specs.declared.table.Table.{Table}
use Rattle.network.specs.Network.{Pipe}
use Rattle.network.specs.Pipes.{pipe_of, network_of, flow_of}
use Rattle.network.specs.Residual.{pipe, size, carried, start_by}
use Rattle.network.specs.Sums.{total, only}
use Rattle.paths.proofs.Tables.{read_row, size_is, pipe_is, carried_is}
use Rattle.augmenting.specs.Surveys.{passing}
use Rattle.augmenting.proofs.Tables.{flow_few}

only_few : (b : Bool) (x : ℕ) → x ≤ 60000 → only b x ≤ 60000
only_few true x h = h
only_few false x h = omega arith

-- what is filtered out counts nothing
filtered : (p : Row → Bool) (rows : List Row) → sum_by (λ (r : Row). r.flow) (filter p rows) ≡ sum_by (λ (r : Row). only (p r) r.flow) rows
filtered p [] = refl
filtered p (r ∷ rows) =
    elim (p r) as (λ b. sum_by (λ (r : Row). r.flow) (cond b (r ∷ filter p rows) (filter p rows)) ≡ only b r.flow + sum_by (λ (r : Row). r.flow) (filter p rows)) [
      | true ↦ sum_by-cons (λ (r : Row). r.flow) r (filter p rows)
      | false ↦ sym (zero-add _)
    ]
    ∙ ap (λ (x : ℕ). only (p r) r.flow + x) (filtered p rows)
    ∙ sym (sum_by-cons (λ (r : Row). only (p r) r.flow) r rows)

module _ (t : Table) (sense : Direction) (j : ℕ) where
  -- what the first n pipes carry away
  abbrev pub passing_below : ℕ → ℕ
  passing_below n = total n (λ k. only (eqb (start_by sense (pipe (network_of t) k)) j) (carried (flow_of t) k))

  abbrev by_row : Row → ℕ
  by_row r = only (eqb (start_by sense (pipe_of r)) j) r.flow

  passing_more : (k : ℕ) → k < t.count → passing_below (suc k) ≡ passing_below k + by_row (get_or t.rows k read_row)
  passing_more k h = ap₂ (λ (p : Pipe) (x : ℕ). passing_below k + only (eqb (start_by sense p) j) x) (pipe_is t k h) (carried_is t k h)

  passing_few : (n : ℕ) → n ≤ t.count → passing_below n ≤ n * 60000
  passing_few zero l = omega arith
  passing_few (suc n) l =
      let e = carried_is t n (omega arith) in
      let few = flow_few t n (omega arith) in
      omega (arith, passing_few n (omega arith), only_few (eqb (start_by sense (pipe (network_of t) n)) j) (carried (flow_of t) n) (omega arith))

  -- 512 pipes carry at most 60,000 each
  pub passing_most : passing_below (size (network_of t)) ≤ 30720000
  passing_most = omega (arith, passing_few (size (network_of t)) (omega (arith, size_is t)), size_is t, t.held)

  first_rows : (n : ℕ) → n ≤ t.count → sum_by by_row (take n t.rows) ≡ passing_below n
  first_rows zero l = refl
  first_rows (suc n) l =
      ap (λ (m : ℕ). sum_by by_row (take m t.rows)) (sym (add-one n))
      ∙ sum_by_more by_row t.rows n read_row (let a = t.long in let b = t.held in omega arith)
      ∙ ap (λ (x : ℕ). x + by_row (get_or t.rows n read_row)) (first_rows n (omega arith))
      ∙ sym (passing_more n (omega arith))

  module _ (rows : List Row) (rows-are : rows ≡ take t.count t.rows) where
    -- the rows that begin there, summed up
    pub rows_passing : passing sense rows j ≡ total (size (network_of t)) (λ k. only (eqb (start_by sense (pipe (network_of t) k)) j) (carried (flow_of t) k))
    rows_passing =
        ap (λ (rs : List Row). passing sense rs j) rows-are
        ∙ sum-map (λ (r : Row). r.flow) (filter (λ (r : Row). eqb (start_by sense (pipe_of r)) j) (take t.count t.rows))
        ∙ filtered (λ r. eqb (start_by sense (pipe_of r)) j) (take t.count t.rows)
        ∙ first_rows t.count (omega arith)
        ∙ ap passing_below (sym (size_is t))

    pub passing_fits : passing sense rows j < 2 ^ 32
    passing_fits = omega (arith, rows_passing, passing_most)
