use Rattle.std.proofs.Common.{rules, arith}
use Rattle.daggy_base.specs.Graph.{HasNode}
use Rattle.daggy_order.proofs.OrderLaws.{acyclic_from_order}
use Rattle.daggy_guard.proofs.OrderAfterChange.{acyclic_by, node_low, last_there, order_of_removed}
use Rattle.daggy_guard.proofs.guard.Guarded.remove_node.Goals as goal

pub returns-in_err-weight-clause-acyclic : goal.returns-in_err-weight-clause-acyclic
returns-in_err-weight-clause-acyclic g c = acyclic_by c.self.invariant.0 c.in_err-weight.ensures.missing

pub take_out-requires-clause-last : goal.take_out-requires-clause-last
take_out-requires-clause-last g c fewer =
    let exists : HasNode (g.S.EdgeSource.graph c.self.inside.store) (g.Ix.IndexType.number c.args.n) = search rules in
    last_there c.invariant.ensures.well_formed c.self.invariant.0 _ exists _
    c.node_slots-slot_count.ensures g.S.ReadStore.KIND c.in_ok-weight.ensures.removed c.node_slots.ensures
    c.invariant.ensures.compact fewer

pub take_out-requires-clause-lower : goal.take_out-requires-clause-lower
take_out-requires-clause-lower g c =
    let exists : HasNode (g.S.EdgeSource.graph c.self.inside.store) (g.Ix.IndexType.number c.args.n) = search rules in
    omega (arith, node_low (g.S.EdgeSource.graph c.self.inside.store) _ exists, c.node_slots-slot_count.ensures)

pub invariant_of-self-2 : goal.invariant_of-self-2
invariant_of-self-2 g c =
    let exists : HasNode (g.S.EdgeSource.graph c.self.inside.store) (g.Ix.IndexType.number c.args.n) = search rules in (
      order_of_removed c.invariant.ensures.well_formed c.self.invariant.0 _ exists _
          c.node_slots-slot_count.ensures g.S.ReadStore.KIND c.in_ok-weight.ensures.between c.in_ok-weight.ensures.removed
          c.node_slots.ensures c.take_out.ensures.moved c.take_out.ensures.stayed,
      search rules,
    )

pub returns-clause-acyclic : goal.returns-clause-acyclic
returns-clause-acyclic g c = acyclic_from_order _ (invariant_of-self-2 g c).0
