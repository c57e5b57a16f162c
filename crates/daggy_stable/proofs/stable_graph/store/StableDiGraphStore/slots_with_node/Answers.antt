use Rattle.std.proofs.Common.{length, Some, sym, ap, ◌∙◌, arith}
use Rattle.daggy_stable.proofs.Stores.{nodes_long}
use Rattle.daggy_stable.proofs.Changes.{node_none, node_some}
use Rattle.daggy_stable.proofs.Bounds.{taken_filled, taken_made}
use Rattle.daggy_stable.proofs.stable_graph.store.StableDiGraphStore.slots_with_node.Goals as goal

pub returns-then-index-slots : goal.returns-then-index-slots
returns-then-index-slots g c =
    λ w.
    let some =
    node_some c.self.invariant (omega (arith, c.if-index-slots.true, c.index.ensures.value, c.len-slots.ensures)) in
    let same =
    taken_filled c.args.self.now.graph.nodes c.args.self.now.graph.vacant_nodes (Some w)
    (λ q. some (ap (λ s. s.graph.vacant_nodes) c.self.view_is ∙ q)) in
    omega (arith, same, ap (λ s. length s.graph.nodes) c.self.view_is, nodes_long c.self.invariant, c.len-slots.ensures)

pub returns : goal.returns
returns g c =
    λ w.
    let none =
    node_none c.self.invariant (omega (arith, c.if-index-slots.false, c.index.ensures.value, c.len-slots.ensures)) in
    let more =
    taken_made c.args.self.now.graph.nodes c.args.self.now.graph.vacant_nodes (Some w)
    (ap (λ s. s.graph.vacant_nodes) (sym c.self.view_is) ∙ none) in
    omega (arith, more, ap (λ s. length s.graph.nodes) c.self.view_is, nodes_long c.self.invariant, c.len-slots.ensures)
