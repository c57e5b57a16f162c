use Rattle.std.proofs.Common.{ap, ◌∙◌}
use Rattle.daggy_base.specs.Removal.{without_all_edges}
use Rattle.daggy_graph.specs.Stored.{stored_graph}
use Rattle.daggy_cells.proofs.States.{state_changed}
use Rattle.daggy_graph.proofs.StoredLemmas.{stored_is, Stores-itself}
use Rattle.daggy_graph.proofs.ClearedEdges.{Stores-with_lists_emptied}
use Rattle.daggy_graph.proofs.graph.DiGraph.clear_edges.Goals as goal

pub invariant_of-self : goal.invariant_of-self
invariant_of-self g c =
    rw (c.clear_lists.ensures, c.clear.ensures.items)
    (Stores-itself _ _ _ _ (Stores-with_lists_emptied _ _ _ _ c.self.invariant))

pub returns : goal.returns
returns g c =
    let stored = Stores-with_lists_emptied _ _ _ _ c.self.invariant in
    state_changed _ _ _ _ without_all_edges c.self.view_is
    (ap (λ l. stored_graph l c.clear.new.self.items) c.clear_lists.ensures ∙ ap (stored_graph _) c.clear.ensures.items
    ∙ stored_is _ _ _ _ stored)
