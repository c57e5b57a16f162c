use Rattle.std.proofs.Common.{sym, ap, ◌∙◌, arith}
use Rattle.daggy_base.specs.Adding.{next_slot, next_edge, with_edge}
use Rattle.daggy_cells.proofs.States.{state_changed}
use Rattle.daggy_stable.proofs.Stores.{stored_is, Stores-itself}
use Rattle.daggy_stable.proofs.Changes.{edge_next, node_inside, edge_filled_code}
use Rattle.daggy_stable.proofs.stable_graph.StableDiGraph.fill_edge.Goals as goal

pub index-requires : goal.index-requires
index-requires g c =
    let found = edge_next c.self.invariant (rw (← c.self.view_is) at c.requires.some) in
    omega (arith, found.2, c.index-i.ensures.value)

pub put_first-x-requires-clause-parent : goal.put_first-x-requires-clause-parent
put_first-x-requires-clause-parent g c =
    let within = node_inside c.self.invariant _ (rw (← c.self.view_is) at c.requires.parent) in
    omega (arith, within, c.of_node.ensures)

pub put_first-x-requires-clause-child : goal.put_first-x-requires-clause-child
put_first-x-requires-clause-child g c =
    let within = node_inside c.self.invariant _ (rw (← c.self.view_is) at c.requires.child) in
    omega (arith, within, c.of_node-2.ensures)

pub index_mut-requires : goal.index_mut-requires
index_mut-requires g c =
    let found = edge_next c.self.invariant (rw (← c.self.view_is) at c.requires.some) in
    omega (arith, found.2, c.index-i.ensures.value)

pub invariant_of-self : goal.invariant_of-self
invariant_of-self g c =
    let a_in = rw (← c.self.view_is) at c.requires.parent in
    let b_in = rw (← c.self.view_is) at c.requires.child in
    Stores-itself (edge_filled_code c.self.invariant (record { parent = a_in; child = b_in }) c.of_node.ensures
    c.of_node-2.ensures (record { led = c.put_first-x.ensures.led; stored = c.put_first-x.ensures.edge })
    (rw (← c.self.view_is) at c.requires.some) c.index-i.ensures.value
    c.index.ensures c.next-self-inside.ensures)

pub returns-clause-index : goal.returns-clause-index
returns-clause-index g c =
    let found = edge_next c.self.invariant (rw (← c.self.view_is) at c.requires.some) in
    c.edge.ensures.value ∙ sym (ap (λ s. next_edge s.graph) (sym c.self.view_is) ∙ ap (next_slot _) found.1)

pub returns-clause-added : goal.returns-clause-added
returns-clause-added g c =
    let a_in = rw (← c.self.view_is) at c.requires.parent in
    let b_in = rw (← c.self.view_is) at c.requires.child in
    state_changed _ _ _ _
    (λ h. with_edge h (g.Ix.IndexType.number c.args.a) (g.Ix.IndexType.number c.args.b) c.args.weight) c.self.view_is
    (stored_is (edge_filled_code c.self.invariant (record { parent = a_in; child = b_in }) c.of_node.ensures
    c.of_node-2.ensures (record { led = c.put_first-x.ensures.led; stored = c.put_first-x.ensures.edge })
    (rw (← c.self.view_is) at c.requires.some) c.index-i.ensures.value
    c.index.ensures c.next-self-inside.ensures))
