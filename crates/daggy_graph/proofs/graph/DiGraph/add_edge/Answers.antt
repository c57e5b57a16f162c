use Rattle.std.proofs.Common.{length, ap, ◌∙◌, arith}
use Rattle.daggy_base.specs.Graph.{edge_count}
use Rattle.daggy_base.specs.Adding.{with_edge}
use Rattle.daggy_cells.specs.Fields.{plain}
use Rattle.daggy_graph.proofs.StoredLemmas.{stored_is, Stores-itself, added_same}
use Rattle.daggy_base.proofs.MappedSlots.{slot_within, count-slots}
use Rattle.daggy_cells.proofs.States.{state_changed}
use Rattle.daggy_graph.proofs.graph.DiGraph.add_edge.Goals as goal

pub invariant_of-self : goal.invariant_of-self
invariant_of-self g c = rw c.reserve.ensures.items c.self.invariant

pub returns-then-is_err-clause-unchanged : goal.returns-then-is_err-clause-unchanged
returns-then-is_err-clause-unchanged g c = rw c.reserve.ensures.items c.self.view_is

pub put_edge-e-requires-clause-stored : goal.put_edge-e-requires-clause-stored
put_edge-e-requires-clause-stored g c = rw c.reserve.ensures.items c.self.invariant

pub put_edge-e-requires-clause-parent : goal.put_edge-e-requires-clause-parent
put_edge-e-requires-clause-parent g c =
    let within = slot_within (λ x. x.weight) c.self.inside.nodes.items _ (rw (← c.self.view_is) at c.requires.parent) in
    omega (arith, within, c.of_node.ensures)

pub put_edge-e-requires-clause-child : goal.put_edge-e-requires-clause-child
put_edge-e-requires-clause-child g c =
    let within = slot_within (λ x. x.weight) c.self.inside.nodes.items _ (rw (← c.self.view_is) at c.requires.child) in
    omega (arith, within, c.of_node-2.ensures)

pub put_edge-e-requires-clause-index_left : goal.put_edge-e-requires-clause-index_left
put_edge-e-requires-clause-index_left g c =
    omega (
      arith,
      c.requires.index_left,
      ap (λ s. edge_count s.graph) c.self.view_is,
      count-slots plain c.self.inside.edges.items,
      ap length c.reserve.ensures.items,
    )

pub invariant_of-self-2 : goal.invariant_of-self-2
invariant_of-self-2 g c = Stores-itself _ _ _ _ c.put_edge-e.ensures.stored

pub returns-clause-added : goal.returns-clause-added
returns-clause-added g c =
    state_changed _ _ _ _
    (λ h. with_edge h (g.Ix.IndexType.number c.args.a) (g.Ix.IndexType.number c.args.b) c.args.weight) c.self.view_is
    (stored_is _ _ _ _ c.put_edge-e.ensures.stored
    ∙ added_same _ c.args.weight c.reserve.ensures.items c.of_node.ensures c.of_node-2.ensures)
