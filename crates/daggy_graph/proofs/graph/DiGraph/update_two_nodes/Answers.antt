use Rattle.std.proofs.Common.{length, Some, sym, ap, ◌∙◌, arith}
use Rattle.std.specs.Option.{option_map}
use Rattle.daggy_base.specs.Weights.{with_node_weight}
use Rattle.daggy_graph.proofs.StoredLemmas.{stored_is, Stores-itself}
use Rattle.daggy_base.proofs.MappedSlots.{slot_within}
use Rattle.daggy_cells.specs.Cells.{node_of_weight}
use Rattle.daggy_cells.proofs.States.{state_changed}
use Rattle.daggy_graph.proofs.TwoWeightLemmas.{nodes_updated, node_shown}
use Rattle.daggy_cells.proofs.CellLemmas.{called_at, called_through}
use Rattle.daggy_graph.proofs.graph.DiGraph.update_two_nodes.Goals as goal

pub at_two-requires-clause-first : goal.at_two-requires-clause-first
at_two-requires-clause-first g c =
    let within = slot_within (λ x. x.weight) c.self.inside.nodes.items _ (rw (← c.self.view_is) at c.requires.first) in
    omega (arith, within, c.index.ensures.value, ap length c.as_mut_slice.ensures.value)

pub at_two-requires-clause-second : goal.at_two-requires-clause-second
at_two-requires-clause-second g c =
    let within = slot_within (λ x. x.weight) c.self.inside.nodes.items _ (rw (← c.self.view_is) at c.requires.second) in
    omega (arith, within, c.index-2.ensures.value, ap length c.as_mut_slice.ensures.value)

pub at_two-requires-clause-different : goal.at_two-requires-clause-different
at_two-requires-clause-different g c same =
    c.requires.different (sym c.index.ensures.value ∙ same ∙ c.index-2.ensures.value)

pub at_two-requires-clause-callable : goal.at_two-requires-clause-callable
at_two-requires-clause-callable g c p q first second =
    let shown = node_shown c.self.inside.nodes.items c.self.inside.edges.items _ c.args.self.now c.self.view_is in
    let lent_is = c.as_mut_slice.ensures.value in
    λ v w v_is w_is.
    c.requires.callable v w
    (shown _ _ c.index.ensures.value _ _ lent_is (ap (option_map (λ z. z.weight)) first ∙ v_is))
    (shown _ _ c.index-2.ensures.value _ _ lent_is (ap (option_map (λ z. z.weight)) second ∙ w_is))

pub invariant_of-self : goal.invariant_of-self
invariant_of-self g c =
    let sent = c.at_two.ensures in
    let r =
    called_through (λ z. Some z.weight) node_of_weight g.F.FnOnce c.args.f _
    (λ same. c.requires.different (sym c.index.ensures.value ∙ same ∙ c.index-2.ensures.value))
    sent.shows.0 sent.shows.1 sent.leaves
    (ap (option_map (λ z. z.weight)) sent.shows.0) (ap (option_map (λ z. z.weight)) sent.shows.1) sent.called in
    Stores-itself _ _ _ _ (nodes_updated c.self.invariant c.index.ensures.value
    c.index-2.ensures.value r.first_left.now r.second_left.now
    (slot_within (λ x. x.weight) c.self.inside.nodes.items _ (rw (← c.self.view_is) at c.requires.first))
    (slot_within (λ x. x.weight) c.self.inside.nodes.items _ (rw (← c.self.view_is) at c.requires.second))
    c.self.inside.nodes.ok.0 c.as_mut_slice.ensures.value r.leaves)

pub returns : goal.returns
returns g c =
    let sent = c.at_two.ensures in
    let r =
    called_through (λ z. Some z.weight) node_of_weight g.F.FnOnce c.args.f _
    (λ same. c.requires.different (sym c.index.ensures.value ∙ same ∙ c.index-2.ensures.value))
    sent.shows.0 sent.shows.1 sent.leaves
    (ap (option_map (λ z. z.weight)) sent.shows.0) (ap (option_map (λ z. z.weight)) sent.shows.1) sent.called in
    let a = g.Ix.IndexType.number c.args.a in
    let b = g.Ix.IndexType.number c.args.b in
    let nodes = c.self.inside.nodes.items in
    let edges = c.self.inside.edges.items in
    called_at r.first r.second r.first_left r.second_left
    (node_shown nodes edges _ c.args.self.now c.self.view_is a c.index.result c.index.ensures.value _ _
    c.as_mut_slice.ensures.value r.shows.0)
    (node_shown nodes edges _ c.args.self.now c.self.view_is b c.index-2.result c.index-2.ensures.value _ _
    c.as_mut_slice.ensures.value r.shows.1)
    r.called
    (state_changed _ _ _ _
    (λ h. with_node_weight (with_node_weight h a r.first_left.now) b r.second_left.now) c.self.view_is
    (stored_is _ _ _ _ (nodes_updated c.self.invariant c.index.ensures.value c.index-2.ensures.value
    r.first_left.now r.second_left.now
    (slot_within (λ x. x.weight) c.self.inside.nodes.items _ (rw (← c.self.view_is) at c.requires.first))
    (slot_within (λ x. x.weight) c.self.inside.nodes.items _ (rw (← c.self.view_is) at c.requires.second))
    c.self.inside.nodes.ok.0 c.as_mut_slice.ensures.value r.leaves)))
