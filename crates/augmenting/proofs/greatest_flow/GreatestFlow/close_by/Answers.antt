use Rattle.std.proofs.Common.{◌≡◌, ℕ, get_or, sym, ap, ◌∙◌, subst}
use Rattle.network.specs.declared.valve.Valve.TheVariants.{Closed}
use Rattle.network.specs.Changes.{with_pipe, with_limit, with_valve}
use Rattle.network.specs.Network.{Pipe}
use Rattle.network.specs.Pipes.{network_of, flow_of}
use Rattle.network.specs.Residual.{pipe}
use Rattle.paths.proofs.Tables.{read_row, pipe_is}
use Rattle.interface.specs.Works.{Lowers}
use Rattle.augmenting.proofs.greatest_flow.GreatestFlow.close_by.Goals as goal

pub returns-in-Some-Closed-clause-closes : goal.returns-in-Some-Closed-clause-closes
returns-in-Some-Closed-clause-closes g c =
    let m = g.M.PathMetric in
    let t = c.args.self.now.table.now in
    let k = c.args.k in
    let w = network_of t in
    let own : (get_or c.args.self.now.table.now.rows c.args.k read_row).limit ≡ (pipe (network_of c.args.self.now.table.now) c.args.k).limit = ap (λ (p : Pipe). p.limit) (sym (pipe_is t k c.requires.inside)) in
    record {
      closes = λ _. (
        c.lower.ensures.network ∙ ap (λ (l : ℕ). with_pipe w k (with_valve (with_limit (pipe w k) l) Closed)) own,
        subst (λ (l : ℕ). Lowers m.good m.start m.extended w (flow_of t) k (with_valve (with_limit (pipe w k) l) Closed) 0 c.lower.result (flow_of c.lower.new.self.table.now)) own c.lower.ensures.lowers,
      );
      leaves = λ no. let h = c.in-Some-Closed.ensures in absurd (no (cc));
    }
