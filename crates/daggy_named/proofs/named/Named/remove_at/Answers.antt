use Rattle.std.proofs.Common.{◌≡◌, None, map, is_some, set, ap, sym, subst, ◌∙◌}
use Rattle.daggy_base.specs.Graph.{HasNode}
use Rattle.daggy_base.specs.Removal.{without_node}
use Rattle.daggy_base.specs.State.{with_graph}
use Rattle.daggy_base.specs.declared.kind.Kind.TheVariants.{Stable}
use Rattle.daggy_order.proofs.OrderLaws.{nodes_isolated}
use Rattle.daggy_named.proofs.Entries.{when_some}
use Rattle.daggy_named.proofs.Removed.{kept_for, slots_without}
use Rattle.daggy_named.proofs.Slots.{same_marks}
use Rattle.daggy_named.proofs.named.Named.remove_at.Goals as goal

pub take_name-key-requires-clause-there : goal.take_name-key-requires-clause-there
take_name-key-requires-clause-there g c =
    let n = g.Ix.IndexType.number c.args.n in
    same_marks c.self.inside.places.items c.self.inside.dag.graph.nodes c.self.invariant.slots n
    ∙ subst (λ s. HasNode s.graph n) (sym c.self.view_is) c.requires

pub invariant_of-self : goal.invariant_of-self
invariant_of-self g c =
    let n = g.Ix.IndexType.number c.args.n in
    let old = c.self.inside.dag in
    let new = c.remove_node.new.self in
    let removed : new ≡ with_graph old (without_node Stable old.graph n) =
    when_some c.remove_node.result c.unwrap-weight.result (λ _. new ≡ with_graph old (without_node Stable old.graph n))
    c.unwrap-weight.ensures c.remove_node.ensures.removed in
    let nodes_are : new.graph.nodes ≡ set old.graph.nodes n None =
    ap (λ d. d.graph.nodes) removed ∙ ap (λ l. set l n None) (nodes_isolated Stable old.graph n) in
    kept_for new.graph.nodes
    (slots_without c.self.inside.places.items old.graph.nodes n c.self.invariant.slots
    ∙ ap (map is_some) (sym nodes_are))
    c.take_name-key.ensures.kept
