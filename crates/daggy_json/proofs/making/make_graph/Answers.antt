use Rattle.std.proofs.Common.{refl}
use Rattle.daggy_json.proofs.Cycles.{of_some}
use Rattle.daggy_json.proofs.GivenSlots.{slots_fit, compact_slots}
use Rattle.daggy_json.proofs.making.make_graph.Goals as goal

pub from_slots-requires-clause-makes_graph : goal.from_slots-requires-clause-makes_graph
from_slots-requires-clause-makes_graph g c =
    slots_fit _ c.args.found.nodes.items c.args.found.edges.items g.Ix.IndexType.greatest c.requires.few_nodes
    c.requires.few_edges c.requires.ends

pub from_slots-requires-clause-compact : goal.from_slots-requires-clause-compact
from_slots-requires-clause-compact g c = λ k.
    compact_slots _ c.args.found.nodes.items c.args.found.edges.items (c.requires.full_nodes k)
    (c.requires.full_edges k)

pub set_orders-requires : goal.set_orders-requires
set_orders-requires g c =
    rw (c.in_ok-graph.ensures.graph, c.as_slice.ensures.value)
    (of_some _ c.args.found.orders c.in-Some.rows c.in-Some.is c.requires.orders)

pub returns : goal.returns
returns g c = record {
  ok =
      rw (c.set_orders.ensures.ordered, c.in_ok-graph.ensures.graph, c.as_slice.ensures.value, c.in-Some.is) refl;
}
