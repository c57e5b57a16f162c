use Rattle.std.proofs.Common.{sym, ap, ◌∙◌, arith}
use Rattle.daggy_base.specs.Adding.{next_slot, next_node, with_node}
use Rattle.daggy_cells.proofs.States.{state_changed}
use Rattle.daggy_stable.proofs.Stores.{stored_is, Stores-itself}
use Rattle.daggy_stable.proofs.Changes.{node_next, node_filled_code}
use Rattle.daggy_stable.proofs.stable_graph.StableDiGraph.fill_node.Goals as goal

pub index-requires : goal.index-requires
index-requires g c =
    let found = node_next c.self.invariant (rw (← c.self.view_is) at c.requires) in
    omega (arith, found.2, c.index-i.ensures.value)

pub index_mut-requires : goal.index_mut-requires
index_mut-requires g c =
    let found = node_next c.self.invariant (rw (← c.self.view_is) at c.requires) in
    omega (arith, found.2, c.index-i.ensures.value)

pub invariant_of-self : goal.invariant_of-self
invariant_of-self g c =
    Stores-itself (node_filled_code c.self.invariant c.args.weight
    (rw (← c.self.view_is) at c.requires) c.index-i.ensures.value c.index.ensures
    c.first-self-inside.ensures c.new_node.ensures)

pub returns-clause-index : goal.returns-clause-index
returns-clause-index g c =
    let found = node_next c.self.invariant (rw (← c.self.view_is) at c.requires) in
    c.node.ensures.value ∙ sym (ap (λ s. next_node s.graph) (sym c.self.view_is) ∙ ap (next_slot _) found.1)

pub returns-clause-added : goal.returns-clause-added
returns-clause-added g c =
    state_changed _ _ _ _ (λ h. with_node h c.args.weight) c.self.view_is
    (stored_is (node_filled_code c.self.invariant c.args.weight
    (rw (← c.self.view_is) at c.requires) c.index-i.ensures.value c.index.ensures
    c.first-self-inside.ensures c.new_node.ensures))
