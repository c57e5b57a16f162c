use Rattle.std.proofs.Common.{arith}
use Rattle.daggy_base.specs.Weights.{with_node_weight, with_edge_weight}
use Rattle.daggy_cells.specs.Fields.{plain}
use Rattle.daggy_graph.proofs.StoredLemmas.{stored_is, Stores-itself}
use Rattle.daggy_base.proofs.MappedSlots.{slot_within}
use Rattle.daggy_cells.proofs.States.{state_changed}
use Rattle.daggy_graph.proofs.TwoWeightLemmas.{both_updated, node_read, edge_read}
use Rattle.daggy_cells.proofs.CellLemmas.{called_at}
use Rattle.daggy_graph.proofs.graph.DiGraph.update_node_and_edge.Goals as goal

pub invariant_of-self : goal.invariant_of-self
invariant_of-self g c =
    let inside = slot_within plain c.self.inside.edges.items _ (rw (← c.self.view_is) at c.requires.edge) in
    Stores-itself _ _ _ _ (both_updated c.self.invariant c.index.ensures.value c.index-2.ensures.value
    _ _ inside c.index_mut-x.ensures.value c.index_mut-y.ensures.value)

pub returns : goal.returns
returns g c =
    let n = g.Ix.IndexType.number c.args.n in
    let e = g.Ix.IndexType.number c.args.e in
    let nodes = c.self.inside.nodes.items in
    let edges = c.self.inside.edges.items in
    let n_in = slot_within (λ x. x.weight) nodes n (rw (← c.self.view_is) at c.requires.node) in
    let e_in = slot_within plain edges e (rw (← c.self.view_is) at c.requires.edge) in
    called_at _ _ _ _
    (node_read nodes edges _ c.args.self.now c.self.view_is n c.index.result c.index.ensures.value
    c.index_mut-x.result.now n_in c.index_mut-x.ensures.value)
    (edge_read nodes edges _ c.args.self.now c.self.view_is e c.index-2.result c.index-2.ensures.value
    c.index_mut-y.result.now e_in c.index_mut-y.ensures.value)
    c.f.ensures
    (state_changed _ _ _ _ (λ h. with_edge_weight (with_node_weight h n c.f.new.arg2) e c.f.new.arg3) c.self.view_is
    (stored_is _ _ _ _ (both_updated c.self.invariant c.index.ensures.value c.index-2.ensures.value
    _ _ e_in c.index_mut-x.ensures.value c.index_mut-y.ensures.value)))

pub index_mut-x-requires : goal.index_mut-x-requires
index_mut-x-requires g c =
    let inside = slot_within (λ x. x.weight) c.self.inside.nodes.items _ (rw (← c.self.view_is) at c.requires.node) in
    omega (arith, inside, c.index.ensures.value)

pub index_mut-y-requires : goal.index_mut-y-requires
index_mut-y-requires g c =
    let inside = slot_within plain c.self.inside.edges.items _ (rw (← c.self.view_is) at c.requires.edge) in
    omega (arith, inside, c.index-2.ensures.value)

pub f-requires : goal.f-requires
f-requires g c =
    let n = g.Ix.IndexType.number c.args.n in
    let e = g.Ix.IndexType.number c.args.e in
    let nodes = c.self.inside.nodes.items in
    let edges = c.self.inside.edges.items in
    let n_in = slot_within (λ x. x.weight) nodes n (rw (← c.self.view_is) at c.requires.node) in
    let e_in = slot_within plain edges e (rw (← c.self.view_is) at c.requires.edge) in
    c.requires.callable _ _
    (node_read nodes edges _ c.args.self.now c.self.view_is n c.index.result c.index.ensures.value
    c.index_mut-x.result.now n_in c.index_mut-x.ensures.value)
    (edge_read nodes edges _ c.args.self.now c.self.view_is e c.index-2.result c.index-2.ensures.value
    c.index_mut-y.result.now e_in c.index_mut-y.ensures.value)
