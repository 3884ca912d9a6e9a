-- One step of a search, over the labels as they are stored.
use Rattle.std.proofs.Common.{◌≡◌, ℕ, suc, ◌<◌, Bool, true, false, ◌⊎◌, List, length, get_or, set, Some, None, sym, refl, ◌∙◌, subst, inl, inr, arith}
use Rattle.std.proofs.lemmas.Bool.{true≢false}
use Rattle.network.specs.declared.step.Step.{Step}
use Rattle.network.specs.Network.{Network}
use Rattle.network.specs.Pipes.{pipe_of, network_of, flow_of}
use Rattle.network.specs.Residual.{start_by, end_by, weight_by, tail, head, weight, size, Residual}
use Rattle.paths.specs.declared.label.Label.{Label}
use Rattle.paths.specs.declared.search.Search.{Search}
use Rattle.paths.specs.Metrics.{Laws}
use Rattle.paths.specs.BestPaths.{via_at}
use Rattle.paths.specs.Searches.{length_at, steps_at, Labelled, Relaxed, Improves, Follows}
use Rattle.paths.proofs.Tables.{read_row, sound, size_is, tail_read, head_read, weight_read}
use Rattle.paths.proofs.Walks.{Sound}
use Rattle.paths.proofs.Labels.{at_set_same, at_set_other}
use Rattle.paths.proofs.Relaxing.{absent, into_source, full, relaxed, better}

module _ {L Λ : Type 0} (means : L → Λ) {good : Λ → Λ → Type 0} {start none : Λ} {extended : Λ → ℕ → Λ} (laws : Laws good start none extended) where
  module _ {w : Network} {f : List ℕ} {a : ℕ} {ls : List (Label L)} (labelled : Labelled w f a means good start none extended ls) where
    pub follows_same : Follows w f a means good start none extended ls ls false
    follows_same = record { kept = labelled.kept; better = λ x. laws.itself _; still = λ e. refl }

    module _ (sound : Sound w f) (a_in : a < w.junctions) (p : Step) (inside : p.pipe < size w) where
      changed : (good (length_at means none ls (head w p)) (extended (length_at means none ls (tail w p)) (weight w f p)) → ⊥)
          → (x : L) → means x ≡ extended (length_at means none ls (tail w p)) (weight w f p)
          → Follows w f a means good start none extended ls (set ls (head w p) (record { length = x; steps = suc (steps_at ls (tail w p)); via = Some p })) true
          × Relaxed w f means good none extended ls (set ls (head w p) (record { length = x; steps = suc (steps_at ls (tail w p)); via = Some p })) p
      changed strict x ex =
          let l : Label L = record { length = x; steps = suc (steps_at ls (tail w p)); via = Some p } in
          let lt : head w p < length ls = omega (arith, (sound.joins p inside).1, labelled.wide) in
          let zero_not : weight w f p ≡ 0 → ⊥ = λ e. strict (absent laws sound a a_in labelled.kept p inside e) in
          let pres : Residual w f p = record { inside = inside; heavy = omega arith } in
          let an : length_at means none (set ls (head w p) l) (head w p) ≡ extended (length_at means none ls (tail w p)) (weight w f p) = at_set_same (λ l. means l.length) none ls (head w p) l lt ∙ ex in
          let ao = at_set_other (λ l. means l.length) none ls (head w p) l in
          let cn : steps_at (set ls (head w p) l) (head w p) ≡ suc (steps_at ls (tail w p)) = at_set_same (λ l. l.steps) 0 ls (head w p) l lt in
          let co = at_set_other (λ l. l.steps) 0 ls (head w p) l in
          let vn : via_at (set ls (head w p) l) (head w p) ≡ Some p = at_set_same (λ l. l.via) None ls (head w p) l lt in
          let vo = at_set_other (λ l. l.via) None ls (head w p) l in (
            record {
              kept = relaxed laws sound a a_in labelled.kept p pres strict an ao cn co vn vo;
              better = better laws sound a a_in labelled.kept p pres strict an ao cn co vn vo;
              still = λ e. absurd (true≢false e);
            },
            subst (λ (z : Λ). good (length_at means none (set ls (head w p) l) (head w p)) z) an (laws.itself _),
          )

      by_result : (ls' : List (Label L)) (r : Bool) → Improves means good none extended ls (tail w p) (head w p) (weight w f p) p ls' r
          → Follows w f a means good start none extended ls ls' r × Relaxed w f means good none extended ls ls' p
      by_result ls' true h =
          subst (λ (z : List (Label L)). Follows w f a means good start none extended ls z true × Relaxed w f means good none extended ls z p) (sym h.1.2) (changed h.0 h.1.0 h.1.1)
      by_result ls' false h =
          subst (λ (z : List (Label L)). Follows w f a means good start none extended ls z false × Relaxed w f means good none extended ls z p) (sym h.1)
          (follows_same, elim h.0 [ inl k ↦ full laws sound a a_in labelled.kept p inside (omega (arith, labelled.wide)) | inr g ↦ g ])

  -- the same of a table's step, by what code reads of its row
  module _ (s : Search) {ls : List (Label L)} (labelled : Labelled (network_of s.table.now) (flow_of s.table.now) s.source means good start none extended ls)
      (p : Step) (h : p.pipe < s.table.now.count)
      {v c : ℕ} (ends : v ≡ end_by p.direction (pipe_of (get_or s.table.now.rows p.pipe read_row)))
      (weighs : c ≡ weight_by p.direction (pipe_of (get_or s.table.now.rows p.pipe read_row)) (get_or s.table.now.rows p.pipe read_row).flow) where
    inside : p.pipe < size (network_of s.table.now)
    inside = omega (arith, size_is s.table.now, h)

    pub stepped : {u : ℕ} → u ≡ start_by p.direction (pipe_of (get_or s.table.now.rows p.pipe read_row)) → (ls' : List (Label L)) (r : Bool) → Improves means good none extended ls u v c p ls' r
        → Follows (network_of s.table.now) (flow_of s.table.now) s.source means good start none extended ls ls' r × Relaxed (network_of s.table.now) (flow_of s.table.now) means good none extended ls ls' p
    stepped {u} starts ls' r i =
        by_result labelled (sound s.table.now) s.within p inside ls' r
        (rw (← tail_read s.table.now p h u starts, ← head_read s.table.now p h v ends, ← weight_read s.table.now p h c weighs) i)

    -- a step that is absent, or into the source, need not be tried
    pub skipped : (c ≡ 0) ⊎ (v ≡ s.source) → Relaxed (network_of s.table.now) (flow_of s.table.now) means good none extended ls ls p
    skipped (inl z) = absent laws (sound s.table.now) s.source s.within labelled.kept p inside (sym (weight_read s.table.now p h c weighs) ∙ z)
    skipped (inr k) = into_source laws (sound s.table.now) s.source s.within labelled.kept p inside (sym (head_read s.table.now p h v ends) ∙ k)
