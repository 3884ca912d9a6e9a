-- What an engine keeps is greatest, and shows the two sides.
use Rattle.network.specs.Flows.{Greatest}
use Rattle.network.specs.Pipes.{network_of, flow_of}
use Rattle.network.specs.Reaches.{Reached, Apart}
use Rattle.network.specs.Reports.{report_of}
use Rattle.network.proofs.Greatest.{greatest_near, greatest_far}
use Rattle.network.proofs.TableFacts.{table_wired}
use Rattle.engines.specs.declared.settled.Settled.{Settled}

module _ (e : Settled) where
  pub kept_greatest : Greatest (network_of e.table) (flow_of e.table)
  kept_greatest = e.greatest

  pub kept_near : Reached (network_of e.table) (flow_of e.table) e.table.pump (report_of (network_of e.table)).near
  kept_near = greatest_near (network_of e.table) (table_wired e.table) (flow_of e.table) kept_greatest

  pub kept_far : Apart (network_of e.table) (flow_of e.table) e.table.outlet (report_of (network_of e.table)).far
  kept_far = greatest_far (network_of e.table) (table_wired e.table) (flow_of e.table) kept_greatest
