use Rattle.std.proofs.Common.{◌≡◌, ℕ, arith}
use Rattle.compare_engines.proofs.Agreeing.{agree_next, agree_all}
use Rattle.compare_engines.proofs.four.Four.difference.Goals as goal

pub loop-call-preserved : goal.loop-call-preserved
loop-call-preserved c =
    let t = c.in-Some.ensures in
    agree_next _ _ _ _ _ _ _ _ _ t.0 t.1 t.2 t.3 (c.agrees.ensures.0 c.if-not-agrees.false) c.loop-call.invariant

pub returns-in_default-clause-first : goal.returns-in_default-clause-first
returns-in_default-clause-first c = agree_all c.args.self.now c.loop-call.call c.in_default.ensures c.loop-call.invariant

pub returns-then-not-agrees-clause-first : goal.returns-then-not-agrees-clause-first
returns-then-not-agrees-clause-first c =
    let t = c.in-Some.ensures in
    record {
      call = c.loop-call.call;
      number = omega arith;
      differs = λ at. let e = c.agrees.ensures.1 (at _ _ _ _ t.0 t.1 t.2 t.3) in let f = c.if-not-agrees.true in let z : ◌≡◌ {A = ℕ} 0 1 = cc in omega arith;
      agree = c.loop-call.invariant;
    }

pub returns-clause-first : goal.returns-clause-first
returns-clause-first c = agree_all c.args.self.now c.loop-call.call (omega (arith, c.loop-call-test.false, c.deref-items.ensures.len)) c.loop-call.invariant
