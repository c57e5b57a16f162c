use Rattle.std.proofs.Common.{◌≡◌}
use Rattle.std.specs.List.{filter}
use Rattle.daggy_base.specs.Graph.{node_weight}
use Rattle.daggy_dag.proofs.OrderOfExisting.{stays_to}
use Rattle.daggy_dag.proofs.acyclic.stable.map.keep_existing.Given as goal

abbrev pub invariant-nodes : goal.invariant-nodes
invariant-nodes g l = l.order ≡ filter (stays_to (node_weight (g.S.EdgeSource.graph l.store)) l.i) l.fn.order
