use Rattle.std.proofs.Common.{◌≡◌, IsSome, ap, subst, ◌∙◌, arith}
use Rattle.daggy_base.specs.Graph.{node_weight}
use Rattle.daggy_base.specs.Weights.{edge_weight, with_node_weight, with_edge_weight}
use Rattle.daggy_cells.proofs.CellLemmas.{called_at}
use Rattle.daggy_cells.proofs.States.{state_changed}
use Rattle.daggy_stable.proofs.Stores.{stored_is, Stores-itself}
use Rattle.daggy_stable.proofs.TwoWeightLemmas.{both_updated, edge_stands, node_cell, edge_cell, still_some}
use Rattle.daggy_stable.proofs.stable_graph.StableDiGraph.update_node_and_edge.Given.{Over}
use Rattle.daggy_stable.proofs.stable_graph.StableDiGraph.update_node_and_edge.Goals.{After-index_mut-x}
use Rattle.daggy_stable.proofs.stable_graph.StableDiGraph.update_node_and_edge.Goals.{After-index_mut-y}
use Rattle.daggy_stable.proofs.stable_graph.StableDiGraph.update_node_and_edge.Goals as goal

-- what the two slots hold
node_is : (g : Over) (c : After-index_mut-x g)
    → node_weight c.args.self.now.graph (g.Ix.IndexType.number c.args.n) ≡ c.index_mut-x.result.now.weight
node_is g c =
    node_cell c.self.invariant c.self.view_is c.index.ensures.value c.requires.node c.index_mut-x.ensures.value

edge_is : (g : Over) (c : After-index_mut-y g)
    → edge_weight c.args.self.now.graph (g.Ix.IndexType.number c.args.e) ≡ c.index_mut-y.result.now.weight
edge_is g c =
    edge_cell c.self.invariant c.self.view_is c.index-2.ensures.value c.requires.edge c.index_mut-y.ensures.value

pub index_mut-y-requires : goal.index_mut-y-requires
index_mut-y-requires g c =
    omega (
      arith,
      edge_stands c.self.invariant c.self.view_is c.index-2.ensures.value c.requires.edge,
      c.self.inside.edges.ok.0,
    )

pub at_slots-requires-clause-first : goal.at_slots-requires-clause-first
at_slots-requires-clause-first g c =
    subst (λ o. IsSome o) (node_is g (goal.at.at_slots-requires-clause-first g c).After-index_mut-x) c.requires.node

pub at_slots-requires-clause-second : goal.at_slots-requires-clause-second
at_slots-requires-clause-second g c =
    subst (λ o. IsSome o) (edge_is g (goal.at.at_slots-requires-clause-second g c).After-index_mut-y)
    (still_some (λ x. x.weight) _ c.requires.edge)

pub at_slots-requires-clause-callable : goal.at_slots-requires-clause-callable
at_slots-requires-clause-callable g c =
    let at = goal.at.at_slots-requires-clause-callable g c in
    λ p q p_is q_is. c.requires.callable p q (node_is g at.After-index_mut-x ∙ p_is)
    (edge_is g at.After-index_mut-y ∙ q_is)

pub invariant_of-self : goal.invariant_of-self
invariant_of-self g c =
    let leaves = c.at_slots.ensures.leaves in
    Stores-itself (both_updated c.self.invariant _ _ c.index.ensures.value c.index-2.ensures.value
    (rw (← c.self.view_is) at c.requires.node) (rw (← c.self.view_is) at c.requires.edge)
    c.index_mut-x.ensures.value c.index_mut-y.ensures.value (ap (λ z. z.0) leaves) (ap (λ z. z.1) leaves))

pub returns : goal.returns
returns g c =
    let at = goal.at.returns g c in
    let r = c.at_slots.ensures in
    let n = g.Ix.IndexType.number c.args.n in
    let e = g.Ix.IndexType.number c.args.e in
    let stored =
    both_updated c.self.invariant n e c.index.ensures.value c.index-2.ensures.value
    (rw (← c.self.view_is) at c.requires.node) (rw (← c.self.view_is) at c.requires.edge)
    c.index_mut-x.ensures.value c.index_mut-y.ensures.value (ap (λ z. z.0) r.leaves) (ap (λ z. z.1) r.leaves) in
    called_at r.first r.second r.first_left r.second_left
    (node_is g at.After-index_mut-x ∙ r.shows.0) (edge_is g at.After-index_mut-y ∙ r.shows.1)
    r.called
    (state_changed _ _ _ _ (λ h. with_edge_weight (with_node_weight h n r.first_left.now) e r.second_left.now)
    c.self.view_is (stored_is stored))
