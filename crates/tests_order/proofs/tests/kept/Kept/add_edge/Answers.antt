use Rattle.std.proofs.Common.{◌≤◌, ap, arith}
use Rattle.daggy_base.specs.Graph.{node_bound}
use Rattle.daggy_search.specs.Room.{Room}
use Rattle.tests_order.proofs.Changes.{on_ok, edge_added}
use Rattle.tests_order.proofs.tests.kept.Kept.add_edge.Goals as goal

pub invariant_of-self : goal.invariant_of-self
invariant_of-self g c =
    let fits : node_bound c.self.inside.graph.graph ≤ c.order_edge-fine.new.scratch.nodes =
    omega (arith, ap (λ (z : Room _). z.nodes) c.order_edge-fine.ensures.same_capacity, c.self.invariant.1) in
    edge_added c.order_edge-fine.new.source _
    _ _ c.order_edge-fine.ensures.ordered (c.order_edge-fine.ensures.before c.if-fine.true) fits
    c.order_edge-fine.ensures.same (on_ok _ _ c.made.ensures c.add_edge.ensures.added)
