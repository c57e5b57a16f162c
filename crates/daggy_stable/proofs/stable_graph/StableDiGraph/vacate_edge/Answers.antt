use Rattle.std.proofs.Common.{ap, ◌∙◌, arith}
use Rattle.daggy_base.specs.Removal.{without_edge}
use Rattle.daggy_base.specs.declared.kind.Kind.TheVariants.{Stable}
use Rattle.daggy_cells.proofs.States.{state_changed}
use Rattle.daggy_stable.proofs.Stores.{stored_is, Stores-itself}
use Rattle.daggy_stable.proofs.StoredRemoval.{edges_some, ready_code, edge_inside, removed_weight, edge_removed_code}
use Rattle.daggy_stable.proofs.stable_graph.StableDiGraph.vacate_edge.Goals as goal

pub unlink-requires : goal.unlink-requires
unlink-requires g c =
    let has = rw (← c.self.view_is, ← c.of_edge-link.ensures) at c.requires in
    ready_code c.self.invariant c.of_edge-link.result has

pub index_mut-x-requires : goal.index_mut-x-requires
index_mut-x-requires g c =
    let has = rw (← c.self.view_is, ← c.of_edge-link.ensures) at c.requires in
    let within = edge_inside c.self.invariant has c.unlink.ensures in
    omega (arith, within, c.index.ensures.value)

pub overflow_sub-self : goal.overflow_sub-self
overflow_sub-self g c =
    let has = rw (← c.self.view_is, ← c.of_edge-link.ensures) at c.requires in
    let some = edges_some c.self.invariant c.of_edge-link.result has in
    omega (arith, some)

pub invariant_of-self : goal.invariant_of-self
invariant_of-self g c =
    let has = rw (← c.self.view_is, ← c.of_edge-link.ensures) at c.requires in
    Stores-itself (edge_removed_code c.self.invariant has c.unlink.ensures c.index_mut-x.result.now
    c.index.ensures.value c.set_next.ensures c.take-weight.ensures.after)

pub returns-clause-value : goal.returns-clause-value
returns-clause-value g c =
    let has = rw (← c.self.view_is, ← c.of_edge-link.ensures) at c.requires in
    rw (← c.self.view_is, ← c.of_edge-link.ensures) (removed_weight c.self.invariant has c.unlink.ensures
    c.index.ensures.value c.index_mut-x.ensures.value c.set_next.ensures c.take-weight.ensures.value)

pub returns-clause-removed : goal.returns-clause-removed
returns-clause-removed g c =
    let has = rw (← c.self.view_is, ← c.of_edge-link.ensures) at c.requires in
    let stored =
    edge_removed_code c.self.invariant has c.unlink.ensures c.index_mut-x.result.now c.index.ensures.value
    c.set_next.ensures c.take-weight.ensures.after in
    state_changed _ _ _ _ (λ h. without_edge Stable h (g.Ix.IndexType.number c.args.e)) c.self.view_is
    (stored_is stored ∙ ap (without_edge Stable _) c.of_edge-link.ensures)
