use Rattle.std.proofs.Common.{IsSome, length, sym, ap, subst, ◌∙◌, arith}
use Rattle.daggy_base.specs.Weights.{with_node_weight}
use Rattle.daggy_cells.specs.Cells.{node_of_weight}
use Rattle.daggy_cells.proofs.CellLemmas.{called_at}
use Rattle.daggy_cells.proofs.States.{state_changed}
use Rattle.daggy_stable.proofs.SlotWeights.{node_weight_in}
use Rattle.daggy_stable.specs.Stored.{weight_of}
use Rattle.daggy_stable.proofs.Stores.{stored_is, Stores-itself}
use Rattle.daggy_stable.proofs.TwoWeightLemmas.{nodes_updated, node_stands, node_seen, slots_called, slot_got}
use Rattle.daggy_stable.proofs.stable_graph.StableDiGraph.update_two_nodes.Goals as goal

pub at_two-requires-clause-first : goal.at_two-requires-clause-first
at_two-requires-clause-first g c =
    omega (
      arith,
      node_stands c.self.invariant c.self.view_is c.index.ensures.value c.requires.first,
      ap length c.as_mut_slice.ensures.value,
    )

pub at_two-requires-clause-second : goal.at_two-requires-clause-second
at_two-requires-clause-second g c =
    omega (
      arith,
      node_stands c.self.invariant c.self.view_is c.index-2.ensures.value c.requires.second,
      ap length c.as_mut_slice.ensures.value,
    )

pub at_two-requires-clause-callable : goal.at_two-requires-clause-callable
at_two-requires-clause-callable g c p q p_is q_is =
    let lent = c.as_mut_slice.result.now in
    let lent_is = c.as_mut_slice.ensures.value in
    let first =
    node_seen c.self.invariant c.self.view_is c.index.ensures.value lent_is
    ∙ slot_got weight_of lent c.index.result p.now p_is in
    let second =
    node_seen c.self.invariant c.self.view_is c.index-2.ensures.value lent_is
    ∙ slot_got weight_of lent c.index-2.result q.now q_is in (
      subst (λ o. IsSome o) first c.requires.first,
      subst (λ o. IsSome o) second c.requires.second,
      λ v w v_is w_is. c.requires.callable v w (first ∙ v_is) (second ∙ w_is),
    )

pub invariant_of-self : goal.invariant_of-self
invariant_of-self g c =
    let sent = c.at_two.ensures in
    let r =
    slots_called weight_of node_of_weight node_weight_in (slot_got weight_of) g.F.FnOnce c.args.f
    (λ same. c.requires.different (sym c.index.ensures.value ∙ same ∙ c.index-2.ensures.value))
    sent.shows.0 sent.shows.1 sent.leaves sent.called.0 sent.called.1 sent.called.2 in
    Stores-itself (nodes_updated c.self.invariant _ _ c.index.ensures.value c.index-2.ensures.value
    r.first_left.now r.second_left.now (rw (← c.self.view_is) at c.requires.first)
    (rw (← c.self.view_is) at c.requires.second) c.self.inside.nodes.ok.0 c.as_mut_slice.ensures.value r.leaves)

pub returns : goal.returns
returns g c =
    let sent = c.at_two.ensures in
    let r =
    slots_called weight_of node_of_weight node_weight_in (slot_got weight_of) g.F.FnOnce c.args.f
    (λ same. c.requires.different (sym c.index.ensures.value ∙ same ∙ c.index-2.ensures.value))
    sent.shows.0 sent.shows.1 sent.leaves sent.called.0 sent.called.1 sent.called.2 in
    let a = g.Ix.IndexType.number c.args.a in
    let b = g.Ix.IndexType.number c.args.b in
    let lent_is = c.as_mut_slice.ensures.value in
    let stored =
    nodes_updated c.self.invariant a b c.index.ensures.value c.index-2.ensures.value r.first_left.now
    r.second_left.now (rw (← c.self.view_is) at c.requires.first) (rw (← c.self.view_is) at c.requires.second)
    c.self.inside.nodes.ok.0 lent_is r.leaves in
    called_at r.first r.second r.first_left r.second_left
    (node_seen c.self.invariant c.self.view_is c.index.ensures.value lent_is ∙ r.shows.0)
    (node_seen c.self.invariant c.self.view_is c.index-2.ensures.value lent_is ∙ r.shows.1)
    r.called
    (state_changed _ _ _ _
    (λ h. with_node_weight (with_node_weight h a r.first_left.now) b r.second_left.now) c.self.view_is
    (stored_is stored))
