use Rattle.std.proofs.Common.{[], ap, ◌∙◌}
use Rattle.daggy_base.specs.Removal.{without_all_edges}
use Rattle.daggy_cells.proofs.States.{state_changed}
use Rattle.daggy_stable.specs.Stored.{stored_graph}
use Rattle.daggy_stable.proofs.Stores.{stored_is, Stores-itself}
use Rattle.daggy_stable.proofs.StoredRemoval.{Stores-emptied}
use Rattle.daggy_stable.proofs.stable_graph.StableDiGraph.clear_edges.Goals as goal

pub invariant_of-self : goal.invariant_of-self
invariant_of-self g c =
    rw (c.empty_lists.ensures, c.clear.ensures.items)
    (Stores-itself (Stores-emptied c.self.invariant _ c.end-self-inside.ensures.value))

pub returns : goal.returns
returns g c =
    let end = g.Ix.IndexType.greatest in
    let stored = Stores-emptied c.self.invariant c.end-self-inside.result c.end-self-inside.ensures.value in
    state_changed _ _ _ _ without_all_edges c.self.view_is
    (ap (λ l. stored_graph end c.empty_lists.new.nodes.items l c.self.inside.first_vacant_node c.end-self-inside.result)
    c.clear.ensures.items
    ∙ ap (λ l. stored_graph end l [] c.self.inside.first_vacant_node c.end-self-inside.result) c.empty_lists.ensures
    ∙ stored_is stored)
