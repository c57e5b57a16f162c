use Rattle.std.specs.Vec.{vec_len}
use Rattle.daggy_base.specs.Graph.{HasEdge}
use Rattle.std.proofs.Common.{◌≡◌, ◌+◌, true, length, ap, ◌∙◌, arith}
use Rattle.daggy_base.specs.TakingBack.{with_edge_taken_back}
use Rattle.daggy_cells.proofs.FieldLemmas.{as_many}
use Rattle.daggy_cells.proofs.States.{state_changed}
use Rattle.daggy_cells.specs.Fields.{plain_edge as stored_edge}
use Rattle.daggy_stable.specs.Stored.{stored_graph}
use Rattle.daggy_stable.proofs.Stores.{stored_is, Stores-itself, edges_long}
use Rattle.daggy_stable.proofs.StoredRemoval.{edges_some, ready_code, cell_weight, edge_cut_code, popped, popped_last}
use Rattle.daggy_stable.proofs.stable_graph.StableDiGraph.cut_edge.Given.{Over}
use Rattle.daggy_stable.proofs.stable_graph.StableDiGraph.cut_edge.Goals.{After-of_edge, After-unlink}
use Rattle.daggy_stable.proofs.stable_graph.StableDiGraph.cut_edge.Goals as goal

-- the graph that is stored has the edge
there : (g : Over) (c : After-of_edge g)
    → HasEdge (stored_graph g.Ix.IndexType.greatest c.self.inside.nodes.items c.self.inside.edges.items
    c.self.inside.first_vacant_node c.self.inside.first_vacant_edge) c.of_edge.result
there g c = rw (← c.self.view_is, ← c.of_edge.ensures) at c.requires.exists

-- it is the last edge
last : (g : Over) (c : After-unlink g) → c.of_edge.result + 1 ≡ length c.self.inside.edges.items
last g c =
    omega (
      arith,
      c.requires.last,
      c.of_edge.ensures,
      ap (λ s. length s.graph.edges) c.self.view_is,
      edges_long c.self.invariant,
    )

-- and still is the last after that
long : (g : Over) (c : After-unlink g) → c.of_edge.result + 1 ≡ vec_len c.unlink.new.edges
long g c = omega (arith, last g c, as_many stored_edge _ _ c.unlink.ensures.plains)

pub unlink-requires : goal.unlink-requires
unlink-requires g c = ready_code c.self.invariant c.of_edge.result (there g (goal.at.unlink-requires g c).After-of_edge)

pub overflow_sub-self : goal.overflow_sub-self
overflow_sub-self g c =
    omega (arith, edges_some c.self.invariant c.of_edge.result (there g (goal.at.overflow_sub-self g c).After-of_edge))

pub unwrap-x-requires : goal.unwrap-x-requires
unwrap-x-requires g c =
    c.pop.ensures.variant.1 (omega (arith, long g (goal.at.unwrap-x-requires g c).After-unlink))

pub invariant_of-self : goal.invariant_of-self
invariant_of-self g c =
    let at = goal.at.invariant_of-self g c in
    let left = c.pop.ensures.rest ∙ popped c.unlink.new.edges.items c.of_edge.result _ (long g at.After-unlink) in
    rw left (Stores-itself
    (edge_cut_code c.self.invariant (there g at.After-of_edge) c.unlink.ensures (last g at.After-unlink)))

pub returns-clause-value : goal.returns-clause-value
returns-clause-value g c =
    let at = goal.at.returns-clause-value g c in
    let reads =
    popped_last c.unlink.new.edges.items c.of_edge.result _ _ c.unwrap-x.result (long g at.After-unlink)
    (c.pop.ensures.value c.unwrap-x.result (omega (arith, long g at.After-unlink))) c.unwrap-x.ensures in
    rw (← c.self.view_is, ← c.of_edge.ensures) (cell_weight c.self.invariant (there g at.After-of_edge)
    c.unlink.ensures c.unwrap-x.result reads)

pub returns-clause-removed : goal.returns-clause-removed
returns-clause-removed g c =
    let at = goal.at.returns-clause-removed g c in
    let end = g.Ix.IndexType.greatest in
    let left = c.pop.ensures.rest ∙ popped c.unlink.new.edges.items c.of_edge.result _ (long g at.After-unlink) in
    let stored =
    edge_cut_code c.self.invariant (there g at.After-of_edge) c.unlink.ensures (last g at.After-unlink) in
    state_changed _ _ _ _ (λ h. with_edge_taken_back true h (g.Ix.IndexType.number c.args.e)) c.self.view_is
    (ap
    (λ l. stored_graph end c.unlink.new.nodes.items l c.self.inside.first_vacant_node c.self.inside.first_vacant_edge)
    left
    ∙ stored_is stored ∙ ap (with_edge_taken_back true _) c.of_edge.ensures)
