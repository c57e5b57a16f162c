use Rattle.std.proofs.Common.{◌≡◌, ◌+◌, true, length, refl, ap, ◌∙◌, arith}
use Rattle.daggy_base.specs.Graph.{node_weight}
use Rattle.daggy_base.specs.TakingBack.{with_node_taken_back}
use Rattle.daggy_cells.proofs.States.{state_changed}
use Rattle.daggy_stable.specs.Stored.{stored_graph}
use Rattle.daggy_stable.proofs.Stores.{stored_is, Stores-itself, nodes_long}
use Rattle.daggy_stable.proofs.StoredRemoval.{nodes_some, node_cut_code, node_weight_read, popped, popped_last}
use Rattle.daggy_stable.proofs.stable_graph.StableDiGraph.cut_node.Given.{Over}
use Rattle.daggy_stable.proofs.stable_graph.StableDiGraph.cut_node.Goals.{After-pop}
use Rattle.daggy_stable.proofs.stable_graph.StableDiGraph.cut_node.Goals as goal

-- it is the last node
last : (g : Over) (c : After-pop g) → g.Ix.IndexType.number c.args.n + 1 ≡ length c.self.inside.nodes.items
last g c =
    omega (arith, c.requires.last, ap (λ s. length s.graph.nodes) c.self.view_is, nodes_long c.self.invariant)

pub overflow_sub-self : goal.overflow_sub-self
overflow_sub-self g c =
    omega (arith, nodes_some c.self.invariant _ (rw (← c.self.view_is) at c.requires.exists))

pub unwrap-x-requires : goal.unwrap-x-requires
unwrap-x-requires g c =
    let last = last g (goal.at.unwrap-x-requires g c).After-pop in
    c.pop.ensures.variant.1 (omega (arith, last))

pub invariant_of-self : goal.invariant_of-self
invariant_of-self g c =
    let last = last g (goal.at.invariant_of-self g c).After-pop in
    rw (c.pop.ensures.rest ∙ popped c.self.inside.nodes.items (g.Ix.IndexType.number c.args.n) _ (omega (arith, last)))
    (Stores-itself (node_cut_code c.self.invariant _ (rw (← c.self.view_is) at c.requires.exists)
    (rw (← c.self.view_is) at c.requires.no_edges) last))

pub returns-clause-value : goal.returns-clause-value
returns-clause-value g c =
    let n = g.Ix.IndexType.number c.args.n in
    let last = last g (goal.at.returns-clause-value g c).After-pop in
    let reads =
    popped_last c.self.inside.nodes.items n _ _ c.unwrap-x.result (omega (arith, last))
    (c.pop.ensures.value c.unwrap-x.result (omega (arith, last))) c.unwrap-x.ensures in
    node_weight_read c.self.invariant n n c.unwrap-x.result (rw (← c.self.view_is) at c.requires.exists) refl reads
    ∙ ap (λ s. node_weight s.graph n) c.self.view_is

pub returns-clause-removed : goal.returns-clause-removed
returns-clause-removed g c =
    let n = g.Ix.IndexType.number c.args.n in
    let last = last g (goal.at.returns-clause-removed g c).After-pop in
    state_changed _ _ _ _ (λ h. with_node_taken_back true h n) c.self.view_is
    (ap (λ l. stored_graph g.Ix.IndexType.greatest l c.self.inside.edges.items c.self.inside.first_vacant_node
    c.self.inside.first_vacant_edge)
    (c.pop.ensures.rest ∙ popped c.self.inside.nodes.items n _ (omega (arith, last)))
    ∙ stored_is (node_cut_code c.self.invariant n (rw (← c.self.view_is) at c.requires.exists)
    (rw (← c.self.view_is) at c.requires.no_edges) last))
