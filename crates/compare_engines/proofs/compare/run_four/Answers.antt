use Rattle.std.proofs.Common.{◌≤◌, ◌∙◌, vec_items, refl, arith}
use Rattle.runs.proofs.Agreed.{answers_agree}
use Rattle.compare_engines.proofs.Copying.{both_copies, copied_long, done}
use Rattle.compare_engines.proofs.compare.run_four.Goals as goal

pub returns-clause-answers : goal.returns-clause-answers
returns-clause-answers c = record {
  warm_fewest = record { given = vec_items c.in_ok-first.first; same = c.in_ok-first.ensures.same; faithful = c.run_two-warm.ensures.one; each = done _ _ _ c.unwrap.ensures c.run_two-warm.ensures.whole ∙ copied_long c.in_ok-first.ensures.same };
  cold_fewest = record { given = vec_items c.in_ok-second.second; same = c.in_ok-second.ensures.same; faithful = c.run_two-warm.ensures.other; each = done _ _ _ c.unwrap-2.ensures c.run_two-warm.ensures.other_whole ∙ copied_long c.in_ok-second.ensures.same };
  warm_widest = record { given = vec_items c.in_ok-third.third; same = c.in_ok-third.ensures.same; faithful = c.run_two-warm-2.ensures.one; each = done _ _ _ c.unwrap-3.ensures c.run_two-warm-2.ensures.whole ∙ copied_long c.in_ok-third.ensures.same };
  cold_widest = record { given = vec_items c.in_ok-fourth.fourth; same = c.in_ok-fourth.ensures.same; faithful = c.run_two-warm-2.ensures.other; each = done _ _ _ c.unwrap-4.ensures c.run_two-warm-2.ensures.other_whole ∙ copied_long c.in_ok-fourth.ensures.same };
}

pub returns-clause-agree : goal.returns-clause-agree
returns-clause-agree c i a b d e p q r s =
    let sized : (2 ≤ 64) × (64 ≤ 64) = (omega arith, omega arith) in
    let first = c.run_two-warm.ensures in
    let last = c.run_two-warm-2.ensures in
    let given = c.in_ok-first.ensures.same in (
      answers_agree _ _ _ _ _ _ _ _ _ _ _ _ _ _ _ _ sized first.one last.one refl refl (both_copies given c.in_ok-third.ensures.same) i a b p q,
      answers_agree _ _ _ _ _ _ _ _ _ _ _ _ _ _ _ _ sized first.one first.other refl refl (both_copies given c.in_ok-second.ensures.same) i a d p r,
      answers_agree _ _ _ _ _ _ _ _ _ _ _ _ _ _ _ _ sized first.one last.other refl refl (both_copies given c.in_ok-fourth.ensures.same) i a e p s,
    )
