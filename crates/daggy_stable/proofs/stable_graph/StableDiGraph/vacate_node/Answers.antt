use Rattle.std.proofs.Common.{ap, ◌∙◌, arith}
use Rattle.daggy_base.specs.Graph.{node_weight}
use Rattle.daggy_base.specs.Removal.{with_node_dropped}
use Rattle.daggy_base.specs.declared.kind.Kind.TheVariants.{Stable}
use Rattle.daggy_cells.proofs.States.{state_changed}
use Rattle.daggy_stable.proofs.Stores.{stored_is, Stores-itself}
use Rattle.daggy_stable.proofs.Changes.{node_inside}
use Rattle.daggy_stable.proofs.StoredRemoval.{nodes_some, node_dropped_code, node_weight_read}
use Rattle.daggy_stable.proofs.stable_graph.StableDiGraph.vacate_node.Goals as goal

pub overflow_sub-self : goal.overflow_sub-self
overflow_sub-self g c =
    let has = rw (← c.self.view_is, ← c.of_node-link.ensures) at c.requires.node in
    let some = nodes_some c.self.invariant c.of_node-link.result has in
    omega (arith, some)

pub invariant_of-self : goal.invariant_of-self
invariant_of-self g c =
    let has = rw (← c.self.view_is, ← c.of_node-link.ensures) at c.requires.node in
    let empty = rw (← c.self.view_is, ← c.of_node-link.ensures) at c.requires.no_edges in
    Stores-itself (node_dropped_code c.self.invariant c.of_node-link.result has empty c.index_mut-x.result.now
    c.set_first.new.x c.take-weight.new.self c.index.ensures.value c.set_first.ensures c.take-weight.ensures.after)

pub returns-clause-value : goal.returns-clause-value
returns-clause-value g c =
    let has = rw (← c.self.view_is, ← c.of_node-link.ensures) at c.requires.node in
    c.take-weight.ensures.value ∙ ap (λ z. z.weight) c.set_first.ensures
    ∙ node_weight_read c.self.invariant c.of_node-link.result c.index.result c.index_mut-x.result.now has
    c.index.ensures.value c.index_mut-x.ensures.value
    ∙ ap (λ s. node_weight s.graph c.of_node-link.result) c.self.view_is
    ∙ ap (node_weight c.args.self.now.graph) c.of_node-link.ensures

pub returns-clause-dropped : goal.returns-clause-dropped
returns-clause-dropped g c =
    let has = rw (← c.self.view_is, ← c.of_node-link.ensures) at c.requires.node in
    let empty = rw (← c.self.view_is, ← c.of_node-link.ensures) at c.requires.no_edges in
    let stored =
    node_dropped_code c.self.invariant c.of_node-link.result has empty c.index_mut-x.result.now c.set_first.new.x
    c.take-weight.new.self c.index.ensures.value c.set_first.ensures c.take-weight.ensures.after in
    state_changed _ _ _ _ (λ h. with_node_dropped Stable h (g.Ix.IndexType.number c.args.n)) c.self.view_is
    (stored_is stored ∙ ap (with_node_dropped Stable _) c.of_node-link.ensures)

pub index_mut-x-requires : goal.index_mut-x-requires
index_mut-x-requires g c =
    let has = rw (← c.self.view_is, ← c.of_node-link.ensures) at c.requires.node in
    let within = node_inside c.self.invariant c.of_node-link.result has in
    omega (arith, within, c.index.ensures.value)
