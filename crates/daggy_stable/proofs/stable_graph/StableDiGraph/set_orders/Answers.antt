use Rattle.std.proofs.Common.{map, sym, ◌∙◌}
use Rattle.std.proofs.lemmas.List.{length-map}
use Rattle.daggy_base.specs.Orders.{numbers_of, with_orders}
use Rattle.daggy_cells.proofs.States.{state_changed}
use Rattle.daggy_stable.proofs.Stores.{stored_is, Stores-itself}
use Rattle.daggy_stable.proofs.ListOrdersKept.{as_many, can_link, ordered}
use Rattle.daggy_stable.proofs.stable_graph.StableDiGraph.set_orders.Goals as goal

pub relink_nodes-requires-clause-count : goal.relink_nodes-requires-clause-count
relink_nodes-requires-clause-count g c =
    sym (length-map c.args.orders.now (numbers_of g.Ix.IndexType.number))
    ∙ as_many c.self.invariant _ (rw (← c.self.view_is) at c.requires)

pub relink_nodes-requires-clause-lists : goal.relink_nodes-requires-clause-lists
relink_nodes-requires-clause-lists g c =
    can_link c.self.invariant _ (rw (← c.self.view_is) at c.requires)

pub invariant_of-self : goal.invariant_of-self
invariant_of-self g c =
    let made = c.relink_nodes.ensures in
    Stores-itself (ordered c.self.invariant _ (rw (← c.self.view_is) at c.requires) made.linked made.nodes made.edges
    made.vacant_nodes made.other_edges made.as_many)

pub returns : goal.returns
returns g c =
    let made = c.relink_nodes.ensures in
    let stored =
    ordered c.self.invariant _ (rw (← c.self.view_is) at c.requires) made.linked made.nodes made.edges
    made.vacant_nodes made.other_edges made.as_many in
    state_changed _ _ _ _ (λ h. with_orders h (map (numbers_of g.Ix.IndexType.number) c.args.orders.now))
    c.self.view_is (stored_is stored)
