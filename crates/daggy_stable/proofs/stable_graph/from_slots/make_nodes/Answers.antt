use Rattle.std.proofs.Common.{arith}
use Rattle.std.proofs.lemmas.List.{length-map}
use Rattle.daggy_stable.specs.Stored.{weight_of}
use Rattle.daggy_base.proofs.ItemsInTurn.{one_left, one_more}
use Rattle.daggy_stable.proofs.stable_graph.from_slots.make_nodes.Goals as goal

pub keep_node-requires-clause-index_left : goal.keep_node-requires-clause-index_left
keep_node-requires-clause-index_left g c =
    let is = rw c.in-Some.ensures.steps.0 at c.each.invariant.4 in
    omega (arith, one_left _ _ _ _ is, length-map c.each.nodes.cells.items weight_of, c.requires.few)

pub keep_node-requires-clause-capacity : goal.keep_node-requires-clause-capacity
keep_node-requires-clause-capacity g c =
    let is = rw c.in-Some.ensures.steps.0 at c.each.invariant.4 in
    omega (arith, one_left _ _ _ _ is, length-map c.each.nodes.cells.items weight_of, c.each.invariant.2)

pub each-preserved : goal.each-preserved
each-preserved g c =
    let is = rw c.in-Some.ensures.steps.0 at c.each.invariant.4 in (
      tt,
      tt,
      omega (arith, c.keep_node.ensures.capacity, c.each.invariant.2),
      c.keep_node.ensures.stored,
      one_more _ _ _ _ is _ c.keep_node.ensures.weights,
    )
