use Rattle.std.proofs.Common.{◌≡◌, Bool, List, [], ◌∷◌, ◌++◌, length, sym, refl, ap, ◌∙◌, arith}
use Rattle.std.proofs.lemmas.List.{take_more_set}
use Rattle.rating.specs.Pages.{governing_row}
use Rattle.rating.proofs.Growing.{row_none, row_more}
use Rattle.rating.proofs.Unrefused.{asked}
use Rattle.rating.proofs.page.Rater.ask_governing.Goals as goal

pub loop-k-init : goal.loop-k-init
loop-k-init g c = record { row = sym (row_none (g.E.Engine.meaning c.args.self.now.engine.now)); same_engine = refl; same_extent = refl; same_work = refl }

pub loop-k-preserved : goal.loop-k-preserved
loop-k-preserved g c =
    let w = g.E.Engine.meaning c.args.self.now.engine.now in
    let k = c.loop-k.k in
    let b = c.unwrap.result in
    let same : g.E.Engine.meaning c.loop-k.self.engine.now ≡ g.E.Engine.meaning c.args.self.now.engine.now = ap (λ x. g.E.Engine.meaning x.now) c.loop-k.invariant.same_engine in
    let is = asked g.E.Engine.MOST_JUNCTIONS (length c.loop-k.self.work.now) (g.E.Engine.meaning c.loop-k.self.engine.now) w k c.governing.result b same (omega arith) (omega arith) c.governing.ensures.answer c.unwrap.ensures in
    record {
      row = take_more_set c.loop-k.marks k b (omega arith)
          ∙ ap (λ (l : List Bool). l ++ b ∷ []) c.loop-k.invariant.row
          ∙ ap (λ (x : Bool). governing_row w k ++ x ∷ []) is
          ∙ sym (row_more w k);
      same_engine = c.loop-k.invariant.same_engine;
      same_extent = c.loop-k.invariant.same_extent;
      same_work = c.loop-k.invariant.same_work;
    }
