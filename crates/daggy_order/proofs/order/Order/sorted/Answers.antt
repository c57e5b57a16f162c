use Rattle.std.proofs.Common.{List, ℕ, sym, subst}
use Rattle.daggy_base.specs.Ordered.{IsOrderOf}
use Rattle.daggy_order.proofs.NodesSorted.{order_from_sorted, sorted_real}
use Rattle.daggy_order.proofs.order.Order.sorted.Goals as goal

pub of_nodes-requires-clause-real : goal.of_nodes-requires-clause-real
of_nodes-requires-clause-real g c =
    sorted_real c.node_bound-well_formed.ensures.well_formed _ c.in-Some.ensures.sorted

pub returns-clause-ordered : goal.returns-clause-ordered
returns-clause-ordered g c =
    let P : List ℕ → Type 0 = λ z. IsOrderOf (g.S.EdgeSource.graph c.args.source.now) z in
    let order = order_from_sorted c.node_bound-well_formed.ensures.well_formed _ c.in-Some.ensures.sorted in
    subst P (sym c.in_ok-order.ensures) order
