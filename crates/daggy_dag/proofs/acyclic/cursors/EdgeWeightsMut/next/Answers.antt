use Rattle.std.proofs.Common.{sym, refl, ap, ◌∙◌, ◌+◌, ◌≤◌, length, inl, arith}
use Rattle.std.specs.Option.{option_map}
use Rattle.daggy_base.proofs.SlotLists.{none_past}
use Rattle.daggy_dag.specs.Cursors.{behind_edge}
use Rattle.daggy_dag.proofs.acyclic.cursors.EdgeWeightsMut.next.Goals as goal

pub returns-then-i-edge_slots : goal.returns-then-i-edge_slots
returns-then-i-edge_slots g c =
    let name = c.index_mut.result.ghost_name in
    let was = c.args.self.now in
    let number = c.new.ensures.number in
    let place = c.edge_from-i.ensures.place in (
      ap (λ i. inl (name, λ w. record (behind_edge was i w) { index = c.edge_from-i.result + 1 })) number
          ∙ ap (λ i. inl (name, λ w. behind_edge was i w)) place,
      record { writes_back = tt; value = rw (← place) (sym (rw number at c.index_mut.ensures.value)) },
    )

pub returns-else-i-edge_slots : goal.returns-else-i-edge_slots
returns-else-i-edge_slots g c =
    let past : length c.args.self.now.dag.now.graph.edges ≤ c.edge_from-i.result =
    omega (arith, c.if-i-edge_slots.false, c.edge_slots.ensures, ap (λ h. length h.edges) c.graph.ensures.graph) in
    let none = none_past c.args.self.now.dag.now.graph.edges c.edge_from-i.result past in
    (refl, record { writes_back = tt; value = rw (← c.edge_from-i.ensures.place) (sym (ap (option_map (λ x. x.weight)) none)) })
