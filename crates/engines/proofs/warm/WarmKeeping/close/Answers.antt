use Rattle.std.proofs.Common.{◌≡◌, rules}
use Rattle.network.specs.Pipes.{network_of, flow_of}
use Rattle.engines.proofs.Taking.{greatest_back}
use Rattle.engines.proofs.warm.WarmKeeping.close.Goals as goal

pub replace-requires : goal.replace-requires
replace-requires g c =
    let u = c.lower-count.new.self.table.now in
    greatest_back _ _ (network_of u) (flow_of u) (search rules) (search rules) c.lower-count.new.self.greatest

pub returns : goal.returns
returns g c =
    let back : c.replace.new.self.table ≡ c.lower-count.new.self.table.now = search rules in
    rw back (record {
      network = search rules;
      changes = search rules;
      works = search rules;
    })
