use Rattle.std.proofs.Common.{map, sym, ◌∙◌}
use Rattle.std.proofs.lemmas.List.{length-map}
use Rattle.daggy_base.specs.Orders.{numbers_of, with_orders}
use Rattle.daggy_cells.proofs.States.{state_changed}
use Rattle.daggy_graph.proofs.StoredLemmas.{stored_is, Stores-itself}
use Rattle.daggy_graph.proofs.ListOrdersKept.{as_many, can_link, ordered}
use Rattle.daggy_graph.proofs.graph.DiGraph.set_orders.Goals as goal

pub relink_nodes-requires-clause-count : goal.relink_nodes-requires-clause-count
relink_nodes-requires-clause-count g c =
    sym (length-map c.args.orders.now (numbers_of g.Ix.IndexType.number))
    ∙ as_many c.self.invariant _ (rw (← c.self.view_is) at c.requires)

pub relink_nodes-requires-clause-lists : goal.relink_nodes-requires-clause-lists
relink_nodes-requires-clause-lists g c =
    can_link c.self.invariant _ (rw (← c.self.view_is) at c.requires)

pub invariant_of-self : goal.invariant_of-self
invariant_of-self g c =
    Stores-itself _ _ _ _ (ordered c.self.invariant _ (rw (← c.self.view_is) at c.requires) _ _
    c.relink_nodes.ensures.nodes c.relink_nodes.ensures.edges c.relink_nodes.ensures.linked)

pub returns : goal.returns
returns g c =
    let stored =
    ordered c.self.invariant _ (rw (← c.self.view_is) at c.requires) _ _ c.relink_nodes.ensures.nodes
    c.relink_nodes.ensures.edges c.relink_nodes.ensures.linked in
    state_changed _ _ _ _ (λ h. with_orders h (map (numbers_of g.Ix.IndexType.number) c.args.orders.now))
    c.self.view_is (stored_is _ _ _ _ stored)
