use Rattle.std.proofs.Common.{◌<◌, ◌≤◌, map, length, refl, sym, ap, ◌∙◌, arith}
use Rattle.std.specs.Option.{option_map}
use Rattle.daggy_base.specs.Graph.{edge_at, slot}
use Rattle.daggy_base.specs.Removal.{without_edge}
use Rattle.daggy_base.specs.declared.kind.Kind.TheVariants.{Compact}
use Rattle.daggy_cells.specs.Fields.{plain, plain_edge}
use Rattle.daggy_graph.specs.Stored.{stored_graph}
use Rattle.daggy_cells.proofs.FieldLemmas.{as_many}
use Rattle.daggy_cells.proofs.States.{state_changed}
use Rattle.daggy_graph.proofs.StoredLists.{got_none, edge_got}
use Rattle.daggy_graph.proofs.StoredLemmas.{stored_is, Stores-itself}
use Rattle.daggy_base.proofs.MappedSlots.{slot_is}
use Rattle.daggy_graph.proofs.graph.DiGraph.remove_edge.Goals as goal

pub invariant_of-self : goal.invariant_of-self
invariant_of-self g c =
    let same = rw (c.index-i.ensures.value ∙ sym c.of_edge.ensures) at c.swap_remove-weight.ensures.items in
    let stored = c.detach.ensures.detached c.swap_remove-weight.result in
    rw same (Stores-itself _ _ _ _ stored)

pub returns-clause-value : goal.returns-clause-value
returns-clause-value g c =
    let e = g.Ix.IndexType.number c.args.e in
    let left = c.detach.new.edges.items in
    let within : c.index-i.result < length left =
    omega (arith, as_many plain_edge _ _ c.detach.ensures.edges, c.if-i-len.false, c.len.ensures) in
    let there =
    slot_is plain left c.index-i.result c.swap_remove-weight.result within c.swap_remove-weight.ensures.value in
    sym (ap (option_map (λ x. x.weight)) (
    ap (λ s. edge_at s.graph e) (sym c.self.view_is) ∙ ap (λ l. slot l e) (sym c.detach.ensures.edges)
    ∙ ap (slot (map plain_edge left)) (sym c.index-i.ensures.value) ∙ there))

pub returns-clause-removed : goal.returns-clause-removed
returns-clause-removed g c =
    let same = rw (c.index-i.ensures.value ∙ sym c.of_edge.ensures) at c.swap_remove-weight.ensures.items in
    let stored = c.detach.ensures.detached c.swap_remove-weight.result in
    let was = stored_graph c.self.inside.nodes.items c.self.inside.edges.items in
    state_changed _ was _ _ (λ h. without_edge Compact h (g.Ix.IndexType.number c.args.e)) c.self.view_is
    (ap (stored_graph c.detach.new.nodes.items) same ∙ stored_is _ _ _ _ stored
    ∙ ap (without_edge Compact was) c.of_edge.ensures)

pub returns-then-i-len-clause-value : goal.returns-then-i-len-clause-value
returns-then-i-len-clause-value g c =
    let past : length c.self.inside.edges.items ≤ c.index-i.result = omega (arith, c.if-i-len.true, c.len.ensures) in
    ap (option_map (λ x. x.weight))
    (edge_got _ _ _ c.args.self.now c.self.view_is c.index-i.ensures.value refl (got_none _ _ past))

pub detach-requires-clause-stored : goal.detach-requires-clause-stored
detach-requires-clause-stored g c = c.self.invariant

pub detach-requires-clause-edge : goal.detach-requires-clause-edge
detach-requires-clause-edge g c =
    omega (arith, c.if-i-len.false, c.len.ensures, c.of_edge.ensures, c.index-i.ensures.value)

pub swap_remove-weight-requires : goal.swap_remove-weight-requires
swap_remove-weight-requires g c =
    omega (arith, as_many plain_edge _ _ c.detach.ensures.edges, c.if-i-len.false, c.len.ensures)
