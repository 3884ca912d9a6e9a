use Rattle.std.proofs.Common.{arith}
use Rattle.network.specs.Pipes.{network_of}
use Rattle.engines.proofs.Calling.{limit_missed}
use Rattle.engines.proofs.settled.Settled.admit_limit.Goals as goal

pub returns-then-limit-lt1 : goal.returns-then-limit-lt1
returns-then-limit-lt1 c =
    let out = c.then-limit-lt1.either in
    limit_missed 64 c.args.places (network_of c.args.self.now.table) c.args.pipe c.in_ok-old.ensures.0 c.args.limit (λ some few. omega (arith, out))
