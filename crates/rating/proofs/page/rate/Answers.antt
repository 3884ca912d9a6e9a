use Rattle.std.proofs.Common.{◌≡◌, map, length, take, Ok, refl, arith, rules}
use Rattle.std.proofs.lemmas.Result.{err_from_is_err_and}
use Rattle.formats.specs.Schedules.{timed}
use Rattle.interface.specs.Verdicts.{loading}
use Rattle.rating.proofs.FirstMissed.{refused_first}
use Rattle.rating.proofs.Reading.{few_places, text_missed, little_space, accepted, never_refused, loaded_size, page_is}
use Rattle.rating.proofs.page.rate.Goals as goal

pub returns-then-work-most : goal.returns-then-work-most
returns-then-work-most g c = let p = few_places _ _ _ _ (omega arith) in (p, (refused_first _ _ _ _ _).0 p, refl, refl, refl)

pub returns-in_err-extent : goal.returns-in_err-extent
returns-in_err-extent g c =
    let p = err_from_is_err_and c.from_residual.result c.from_residual.ensures.1 in
    let r = text_missed _ _ _ _ (omega arith) _ _ c.MOST_JUNCTIONS-most.ensures c.in_err-extent.ensures.0 in
    rw (p.1, p.2) (r, (refused_first _ _ _ _ _).0 r, refl {a = c.args.engine.now}, refl {a = c.args.work.now}, refl {a = c.args.page.now})

pub returns-then-page-length : goal.returns-then-page-length
returns-then-page-length g c = let p = little_space _ _ _ _ (omega arith) _ _ _ c.MOST_JUNCTIONS-most.ensures c.in_ok-extent.ensures (omega arith) in (p, (refused_first _ _ _ _ _).0 p, refl, refl, refl)

pub unwrap-requires : goal.unwrap-requires
unwrap-requires g c = accepted _ _ c.load.result c.load.ensures (λ e h. never_refused _ _ _ (length c.args.page.now) (omega arith) _ _ _ c.MOST_JUNCTIONS-most.ensures c.in_ok-extent.ensures e h.0)

pub invariant_of-rater : goal.invariant_of-rater
invariant_of-rater g c =
    let load : loading g.E.Engine.MOST_JUNCTIONS (length c.args.work.now) c.args.text.now ≡ Ok (g.E.Engine.meaning c.load.new.self, c.unwrap.result) = (simp c.unwrap.ensures at c.load.ensures).0 in
    let sizes = loaded_size _ _ _ (length c.args.page.now) (omega arith) _ _ _ c.MOST_JUNCTIONS-most.ensures c.in_ok-extent.ensures _ _ load in
    record { placed = omega arith; joined = sizes.0; sized = sizes.1 }

pub returns : goal.returns
returns g c =
    let load : loading g.E.Engine.MOST_JUNCTIONS (length c.args.work.now) c.args.text.now ≡ Ok (g.E.Engine.meaning c.load.new.self, c.unwrap.result) = (simp c.unwrap.ensures at c.load.ensures).0 in
    page_is g.E.Engine.MOST_JUNCTIONS (length c.args.work.now) c.args.text.now (length c.args.page.now) (omega arith) c.MOST_JUNCTIONS-most.result (map timed (take c.in_ok-extent.schedule.count c.in_ok-extent.schedule.steps)) c.in_ok-extent.extent
    c.MOST_JUNCTIONS-most.ensures c.in_ok-extent.ensures (g.E.Engine.meaning c.load.new.self) _ c.unwrap.result c.args.page.now c.rate_steps-total.new.page c.put_total.new.space c.rate_steps-total.result c.page_length-length.result
    load (search rules) c.rate_steps-total.ensures.written c.rate_steps-total.ensures.total c.page_length-length.ensures.length c.put_total.ensures (omega arith)
