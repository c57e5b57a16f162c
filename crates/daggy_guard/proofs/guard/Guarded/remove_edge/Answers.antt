use Rattle.std.proofs.Common.{arith}
use Rattle.daggy_order.proofs.OrderLaws.{acyclic_from_order}
use Rattle.daggy_guard.proofs.GuardedChange.{bound_edge_gone}
use Rattle.daggy_guard.proofs.OrderAfterChange.{order_edge_gone}
use Rattle.daggy_guard.proofs.guard.Guarded.remove_edge.Goals as goal

pub invariant_of-self : goal.invariant_of-self
invariant_of-self g c = (
  order_edge_gone g.S.ReadStore.KIND _ c.remove_edge.result c.remove_edge.ensures.removed c.remove_edge.ensures.missing
      _ c.self.invariant.0,
  omega (
    arith,
    bound_edge_gone g.S.ReadStore.KIND _ _ _ c.remove_edge.result c.remove_edge.ensures.removed
        c.remove_edge.ensures.missing,
    c.self.invariant.1,
  ),
)

pub returns-clause-acyclic : goal.returns-clause-acyclic
returns-clause-acyclic g c =
    acyclic_from_order _ (order_edge_gone g.S.ReadStore.KIND _ c.remove_edge.result c.remove_edge.ensures.removed
    c.remove_edge.ensures.missing _ c.self.invariant.0)
