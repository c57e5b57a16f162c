use Rattle.std.proofs.Common.{sym, arith}
use Rattle.std.proofs.lemmas.List.{length-map}
use Rattle.daggy_base.proofs.SlotLists.{vacant_is_listed}
use Rattle.daggy_base.proofs.ItemsInTurn.{one_left, one_more}
use Rattle.daggy_cells.specs.Fields.{weight_of}
use Rattle.daggy_graph.proofs.StoredLemmas.{Stores-itself}
use Rattle.daggy_graph.proofs.BuiltFromSlots.{node_built}
use Rattle.daggy_graph.proofs.graph.from_slots.make_nodes.Goals as goal

pub each-preserved-in-None-x : goal.each-preserved-in-None-x
each-preserved-in-None-x g c =
    let is = rw c.in-None-x.is at (rw c.in-Some.ensures.steps.0 at c.each.invariant.4) in
    absurd (vacant_is_listed _ _ _ (sym is) c.requires.full)

pub put_node-n-requires-clause-stored : goal.put_node-n-requires-clause-stored
put_node-n-requires-clause-stored g c = Stores-itself _ _ _ _ c.each.invariant.3

pub put_node-n-requires-clause-index_left : goal.put_node-n-requires-clause-index_left
put_node-n-requires-clause-index_left g c =
    let is = rw c.in-Some.ensures.steps.0 at c.each.invariant.4 in
    omega (arith, one_left _ _ _ _ is, length-map c.each.nodes.items weight_of, c.requires.few)

pub put_node-n-requires-clause-capacity : goal.put_node-n-requires-clause-capacity
put_node-n-requires-clause-capacity g c =
    let is = rw c.in-Some.ensures.steps.0 at c.each.invariant.4 in
    omega (arith, one_left _ _ _ _ is, length-map c.each.nodes.items weight_of, c.each.invariant.2)

pub each-preserved : goal.each-preserved
each-preserved g c =
    let w = c.in-Some-x.weight in
    let is = rw c.in-Some-x.is at (rw c.in-Some.ensures.steps.0 at c.each.invariant.4) in
    let built = node_built _ _ _ c.each.invariant.3 c.requires.no_edges w _ c.put_node-n.ensures.stored in (
      tt,
      tt,
      omega (arith, c.put_node-n.ensures.capacity, c.each.invariant.2),
      built.stored,
      one_more _ _ _ _ is _ built.made,
    )
