use Rattle.std.proofs.Common.{◌≡◌, ◌<◌, map, length, refl, subst, ◌∙◌, arith}
use Rattle.std.proofs.lemmas.List.{length-map}
use Rattle.daggy_base.specs.Orders.{numbers_of}
use Rattle.daggy_cells.specs.Fields.{weight_of, plain_edge, firsts_of, order_at}
use Rattle.daggy_cells.specs.Raw.{raw_first}
use Rattle.daggy_cells.specs.Links.{CanLink}
use Rattle.daggy_cells.proofs.FieldLemmas.{as_many}
use Rattle.daggy_cells.proofs.ListOrders.{order_read}
use Rattle.daggy_cells.proofs.RelinkedLists.{CanLink-as_long, none_below, below_linked, all_linked}
use Rattle.daggy_graph.proofs.graph.ordering.relink_nodes.Goals as goal

pub each-init : goal.each-init
each-init g c = record { weights = refl; lines = refl; rows = λ dir. none_below _ _ _ _ }

pub relink_both-requires-clause-node : goal.relink_both-requires-clause-node
relink_both-requires-clause-node g c =
    omega (arith, c.each-test.true, c.len-i-end.ensures, as_many weight_of _ _ c.each.invariant.weights)

pub relink_both-requires-clause-lists : goal.relink_both-requires-clause-lists
relink_both-requires-clause-lists g c =
    let within : c.each.i < length c.args.orders.now =
    omega (arith, c.each-test.true, c.len-i-end.ensures, c.requires.count) in
    λ dir.
    let read =
    order_read g.Ix.IndexType.number dir c.args.orders.now c.each.i c.index-orders-i.result within
    c.index-orders-i.is in
    CanLink-as_long _ _ _
    (subst (CanLink (length c.args.edges.now.items)) read ((c.requires.lists dir).each c.each.i))
    (as_many plain_edge _ _ c.each.invariant.lines)

pub each-preserved : goal.each-preserved
each-preserved g c =
    let within : c.each.i < length c.args.orders.now =
    omega (arith, c.each-test.true, c.len-i-end.ensures, c.requires.count) in
    let inside : c.each.i < length c.each.nodes.items =
    omega (arith, c.each-test.true, c.len-i-end.ensures, as_many weight_of _ _ c.each.invariant.weights) in
    record {
      weights = c.relink_both.ensures.nodes ∙ c.each.invariant.weights;
      lines = c.relink_both.ensures.edges ∙ c.each.invariant.lines;
      rows = λ dir.
          let read =
          order_read g.Ix.IndexType.number dir c.args.orders.now c.each.i c.index-orders-i.result within
          c.index-orders-i.is in
          let made = c.relink_both.ensures.links dir in
          below_linked _ _ (c.each.invariant.rows dir) (c.requires.lists dir)
          (omega (arith, inside, length-map c.each.nodes.items (raw_first dir))) _ read made.first made.nexts;
    }

pub returns-clause-linked : goal.returns-clause-linked
returns-clause-linked g c =
    let number = g.Ix.IndexType.number in
    λ dir.
    let firsts : length (firsts_of dir c.each.nodes.items) ≡ length c.args.nodes.now.items =
    omega (arith, as_many weight_of _ _ c.each.invariant.weights, length-map c.each.nodes.items (raw_first dir)) in
    let lists : length (map (order_at dir) (map (numbers_of number) c.args.orders.now)) ≡ length c.args.orders.now =
    length-map (map (numbers_of number) c.args.orders.now) (order_at dir)
    ∙ length-map c.args.orders.now (numbers_of number) in
    all_linked _ _ (c.each.invariant.rows dir)
    (omega (arith, firsts, c.each-test.false, c.each.auto.i-end, c.len-i-end.ensures))
    (omega (arith, firsts, lists, c.requires.count))
