use Rattle.std.proofs.Common.{rules, ◌≡◌, length, ap, arith}
use Rattle.daggy_base.specs.Adding.{with_edge}
use Rattle.daggy_cells.proofs.States.{state_changed}
use Rattle.daggy_stable.proofs.Stores.{stored_is, Stores-itself, edges_long}
use Rattle.daggy_stable.proofs.Changes.{node_inside}
use Rattle.daggy_stable.proofs.BuiltSlots.{edge_made_code}
use Rattle.daggy_stable.proofs.stable_graph.StableDiGraph.make_edge.Goals as goal

pub invariant_of-self : goal.invariant_of-self
invariant_of-self g c = rw c.reserve.ensures.items c.self.invariant

pub returns-then-is_err-clause-unchanged : goal.returns-then-is_err-clause-unchanged
returns-then-is_err-clause-unchanged g c = rw c.reserve.ensures.items c.self.view_is

pub put_first-x-requires-clause-parent : goal.put_first-x-requires-clause-parent
put_first-x-requires-clause-parent g c =
    let within = node_inside c.self.invariant _ (rw (← c.self.view_is) at c.requires.parent) in
    omega (arith, within, c.of_node.ensures)

pub put_first-x-requires-clause-child : goal.put_first-x-requires-clause-child
put_first-x-requires-clause-child g c =
    let within = node_inside c.self.invariant _ (rw (← c.self.view_is) at c.requires.child) in
    omega (arith, within, c.of_node-2.ensures)

pub invariant_of-self-2 : goal.invariant_of-self-2
invariant_of-self-2 g c =
    let a_in = rw (← c.self.view_is) at c.requires.parent in
    let b_in = rw (← c.self.view_is) at c.requires.child in
    let new : c.new-e.result ≡ length c.self.inside.edges.items =
    omega (arith, c.new-e.ensures, c.len.ensures, ap length c.reserve.ensures.items) in
    let pushed = rw c.reserve.ensures.items at c.push_reserved.ensures.items in
    Stores-itself (edge_made_code c.self.invariant (record { parent = a_in; child = b_in }) c.of_node.ensures
    c.of_node-2.ensures (record { led = c.put_first-x.ensures.led; stored = c.put_first-x.ensures.edge }) new
    (rw (← c.self.view_is) at c.requires.none) (rw (← c.self.view_is) at c.requires.index_left) pushed)

pub returns-clause-added : goal.returns-clause-added
returns-clause-added g c =
    let a_in = rw (← c.self.view_is) at c.requires.parent in
    let b_in = rw (← c.self.view_is) at c.requires.child in
    let new : c.new-e.result ≡ length c.self.inside.edges.items =
    omega (arith, c.new-e.ensures, c.len.ensures, ap length c.reserve.ensures.items) in
    let pushed = rw c.reserve.ensures.items at c.push_reserved.ensures.items in
    state_changed _ _ _ _
    (λ h. with_edge h (g.Ix.IndexType.number c.args.a) (g.Ix.IndexType.number c.args.b) c.args.weight) c.self.view_is
    (stored_is (edge_made_code c.self.invariant (record { parent = a_in; child = b_in }) c.of_node.ensures
    c.of_node-2.ensures (record { led = c.put_first-x.ensures.led; stored = c.put_first-x.ensures.edge }) new
    (rw (← c.self.view_is) at c.requires.none) (rw (← c.self.view_is) at c.requires.index_left) pushed))

pub new-e-requires : goal.new-e-requires
new-e-requires g c =
    omega (
      arith,
      c.len.ensures,
      ap length c.reserve.ensures.items,
      edges_long c.self.invariant,
      c.self.invariant.edge_slots.few,
    )

pub push_reserved-requires : goal.push_reserved-requires
push_reserved-requires g c = search (rules, c.reserve.ensures.ok, c.is_err.ensures, c.if-is_err.false)
