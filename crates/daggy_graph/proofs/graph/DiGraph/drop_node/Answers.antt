use Rattle.std.proofs.Common.{◌<◌, ◌≡◌, ◌-◌, [], length, sym, ap, ◌∙◌, arith}
use Rattle.daggy_graph.specs.Stored.{Stores, stored_graph}
use Rattle.daggy_base.specs.declared.index.Direction.{Direction}
use Rattle.daggy_base.specs.declared.index.Direction.TheVariants.{Outgoing, Incoming}
use Rattle.daggy_base.specs.Graph.{node_weight}
use Rattle.daggy_base.specs.Removal.{with_node_dropped}
use Rattle.daggy_base.specs.declared.kind.Kind.TheVariants.{Compact}
use Rattle.daggy_cells.specs.Links.{nth_list}
use Rattle.daggy_cells.specs.Fields.{lists_at}
use Rattle.daggy_cells.proofs.States.{state_changed}
use Rattle.daggy_graph.proofs.StoredLemmas.{stored_is, Stores-itself}
use Rattle.daggy_base.proofs.MappedSlots.{slot_within, slot_is}
use Rattle.daggy_graph.proofs.DroppedNode.{Stores-dropped}
use Rattle.daggy_graph.proofs.graph.DiGraph.drop_node.Given.{Over}
use Rattle.daggy_graph.proofs.graph.DiGraph.drop_node.Goals.{After-self, After-swap_remove-weight}
use Rattle.daggy_graph.proofs.graph.DiGraph.drop_node.Goals as goal

-- the node is among the slots
within : (g : Over) (c : After-self g) → g.Ix.IndexType.number c.args.n < length c.self.inside.nodes.items
within g c = slot_within (λ x. x.weight) c.self.inside.nodes.items _ (rw (← c.self.view_is) at c.requires.node)

-- the changed lists store the graph without the node
stored : (g : Over) (c : After-swap_remove-weight g)
    → Stores g.Ix.IndexType.greatest c.swap_remove-weight.new.self.items c.reassign_last.new.edges.items
    (with_node_dropped Compact (stored_graph c.self.inside.nodes.items c.self.inside.edges.items)
    (g.Ix.IndexType.number c.args.n))
stored g c =
    let n = g.Ix.IndexType.number c.args.n in
    let nodes = c.self.inside.nodes.items in
    let edges = c.self.inside.edges.items in
    let inside = slot_within (λ x. x.weight) nodes n (rw (← c.self.view_is) at c.requires.node) in
    let empty : (d : Direction) → nth_list (lists_at d (stored_graph nodes edges)) n ≡ [] =
    elim [
      | Outgoing ↦ ap (λ s. nth_list s.graph.out_lists n) c.self.view_is ∙ c.requires.no_edges Outgoing
      | Incoming ↦ ap (λ s. nth_list s.graph.in_lists n) c.self.view_is ∙ c.requires.no_edges Incoming
    ] in
    rw (c.swap_remove-weight.ensures.items, c.index-i.ensures.value, c.reassign_last.ensures, c.of_node.ensures)
    (Stores-dropped nodes edges c.self.invariant n (length nodes - 1) c.swap_remove-weight.result inside
    (omega (arith, inside)) empty)

pub reassign_last-requires-clause-node : goal.reassign_last-requires-clause-node
reassign_last-requires-clause-node g c =
    omega (arith, within g (goal.at.reassign_last-requires-clause-node g c).After-self, c.of_node.ensures)

pub swap_remove-weight-requires : goal.swap_remove-weight-requires
swap_remove-weight-requires g c =
    omega (arith, within g (goal.at.swap_remove-weight-requires g c).After-self, c.index-i.ensures.value)

pub invariant_of-self : goal.invariant_of-self
invariant_of-self g c = Stores-itself _ _ _ _ (stored g (goal.at.invariant_of-self g c).After-swap_remove-weight)

pub returns-clause-value : goal.returns-clause-value
returns-clause-value g c =
    let n = g.Ix.IndexType.number c.args.n in
    let nodes = c.self.inside.nodes.items in
    let reads = rw c.index-i.ensures.value at c.swap_remove-weight.ensures.value in
    ap (λ s. node_weight s.graph n) (sym c.self.view_is)
    ∙ slot_is (λ x. x.weight) nodes n c.swap_remove-weight.result
    (within g (goal.at.returns-clause-value g c).After-self) reads

pub returns-clause-dropped : goal.returns-clause-dropped
returns-clause-dropped g c =
    let n = g.Ix.IndexType.number c.args.n in
    state_changed _ _ _ _ (λ h. with_node_dropped Compact h n) c.self.view_is
    (stored_is _ _ _ _ (stored g (goal.at.returns-clause-dropped g c).After-swap_remove-weight))
