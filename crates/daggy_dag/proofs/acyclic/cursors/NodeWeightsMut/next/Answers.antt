use Rattle.std.proofs.Common.{sym, refl, ap, ◌∙◌, ◌+◌, ◌≤◌, length, inl, arith}
use Rattle.daggy_base.proofs.SlotLists.{none_past}
use Rattle.daggy_dag.specs.Cursors.{behind_node}
use Rattle.daggy_dag.proofs.acyclic.cursors.NodeWeightsMut.next.Goals as goal

pub returns-then-i-node_slots : goal.returns-then-i-node_slots
returns-then-i-node_slots g c =
    let name = c.index_mut.result.ghost_name in
    let was = c.args.self.now in
    let number = c.new.ensures.number in
    let place = c.node_from-i.ensures.place in (
      ap (λ i. inl (name, λ w. record (behind_node was i w) { index = c.node_from-i.result + 1 })) number
          ∙ ap (λ i. inl (name, λ w. behind_node was i w)) place,
      record { writes_back = tt; value = rw (← place) (sym (rw number at c.index_mut.ensures.value)) },
    )

pub returns-else-i-node_slots : goal.returns-else-i-node_slots
returns-else-i-node_slots g c =
    let past : length c.args.self.now.dag.now.graph.nodes ≤ c.node_from-i.result =
    omega (arith, c.if-i-node_slots.false, c.node_slots.ensures, ap (λ h. length h.nodes) c.graph.ensures.graph) in
    let none = none_past c.args.self.now.dag.now.graph.nodes c.node_from-i.result past in
    (refl, record { writes_back = tt; value = rw (← c.node_from-i.ensures.place) (sym none) })
