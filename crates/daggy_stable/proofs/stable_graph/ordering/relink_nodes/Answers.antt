use Rattle.std.proofs.Common.{◌<◌, length, subst, arith}
use Rattle.daggy_base.specs.declared.index.Direction.TheVariants.{Outgoing}
use Rattle.daggy_base.specs.Orders.{numbers_of}
use Rattle.daggy_cells.specs.Links.{CanLink}
use Rattle.daggy_cells.proofs.ListOrders.{order_read}
use Rattle.daggy_cells.proofs.RelinkedLists.{CanLink-as_long}
use Rattle.daggy_stable.proofs.ListOrdersKept.{ordering_start, ordering_vacant, ordering_step, ordering_done}
use Rattle.daggy_stable.proofs.ListOrdersKept.{order_left, row_is, taken_at, as_many_nodes, as_many_edges}
use Rattle.daggy_stable.proofs.stable_graph.ordering.relink_nodes.Goals as goal

pub each-init : goal.each-init
each-init g c = ordering_start _ _ _ _

pub each-preserved-then-is_none : goal.each-preserved-then-is_none
each-preserved-then-is_none g c =
    ordering_vacant _ _ _ _ c.each.invariant c.index.result.now (omega (arith, c.each-test.true, c.len-i-end.ensures))
    c.index.ensures c.if-is_none.ensures

pub bounds-orders-next : goal.bounds-orders-next
bounds-orders-next g c =
    let inside : c.each.i < length c.args.nodes.now.items = omega (arith, c.each-test.true, c.len-i-end.ensures) in
    let some = taken_at _ _ _ _ c.each.invariant c.index.result.now inside c.index.ensures c.if-is_none.ensures in
    order_left _ _ _ _ c.each.invariant some.0 inside some.1 c.requires.count

pub relink_both-requires-clause-node : goal.relink_both-requires-clause-node
relink_both-requires-clause-node g c =
    omega (arith, c.each-test.true, c.len-i-end.ensures, as_many_nodes _ _ _ _ c.each.invariant)

pub relink_both-requires-clause-lists : goal.relink_both-requires-clause-lists
relink_both-requires-clause-lists g c =
    let inside : c.each.i < length c.args.nodes.now.items = omega (arith, c.each-test.true, c.len-i-end.ensures) in
    let some = taken_at _ _ _ _ c.each.invariant c.index.result.now inside c.index.ensures c.if-is_none.ensures in
    let within = order_left _ _ _ _ c.each.invariant some.0 inside some.1 c.requires.count in
    λ dir.
    let read =
    order_read g.Ix.IndexType.number dir c.args.orders.now c.each.next c.index-orders-next.result within
    c.index-orders-next.is in
    let row = row_is _ _ _ _ c.each.invariant some.0 inside some.1 dir _ read in
    CanLink-as_long _ _ _
    (subst (CanLink (length c.args.edges.now.items)) row ((c.requires.lists dir).each c.each.i))
    (as_many_edges _ _ _ _ c.each.invariant)

pub each-preserved : goal.each-preserved
each-preserved g c =
    let inside : c.each.i < length c.args.nodes.now.items = omega (arith, c.each-test.true, c.len-i-end.ensures) in
    let some = taken_at _ _ _ _ c.each.invariant c.index.result.now inside c.index.ensures c.if-is_none.ensures in
    let within = order_left _ _ _ _ c.each.invariant some.0 inside some.1 c.requires.count in
    ordering_step _ _ _ _ c.each.invariant some.0 inside some.1 c.requires.lists
    (numbers_of g.Ix.IndexType.number c.index-orders-next.result)
    (λ dir.
    order_read g.Ix.IndexType.number dir c.args.orders.now c.each.next c.index-orders-next.result within
    c.index-orders-next.is)
    _ _ c.relink_both.ensures.links c.relink_both.ensures.nodes c.relink_both.ensures.edges

pub returns : goal.returns
returns g c =
    let rows = c.each.invariant.rows Outgoing in
    record {
      linked =
          ordering_done _ _ _ _ c.each.invariant
          (omega (arith, c.each-test.false, c.each.auto.i-end, c.len-i-end.ensures));
      nodes = c.each.invariant.weights;
      edges = c.each.invariant.lines;
      vacant_nodes = c.each.invariant.vacant;
      other_edges = rows.others;
      as_many = rows.same_length;
    }
