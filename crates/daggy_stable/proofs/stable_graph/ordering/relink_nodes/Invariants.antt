use Rattle.std.proofs.Common.{map}
use Rattle.daggy_base.specs.Orders.{numbers_of}
use Rattle.daggy_stable.proofs.ListOrdersKept.{IsOrdering}
use Rattle.daggy_stable.proofs.stable_graph.ordering.relink_nodes.Given as goal

abbrev pub invariant-each : goal.invariant-each
invariant-each g l =
    IsOrdering g.Ix.IndexType.greatest l.fn.nodes.items l.fn.edges.items
    (map (numbers_of g.Ix.IndexType.number) l.orders) l.nodes.items l.edges.items l.i l.next
