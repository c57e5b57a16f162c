use Rattle.std.proofs.Common.{◌≡◌, ◌≤◌, sym, subst, ap, arith}
use Rattle.daggy_base.specs.Graph.{Graph, node_bound}
use Rattle.daggy_base.specs.Path.{IsAcyclic}
use Rattle.daggy_search.specs.Room.{Room}
use Rattle.daggy_base.proofs.PathsWithNode.{bound_low}
use Rattle.daggy_dag.proofs.Found.{value_holds, none_holds}
use Rattle.daggy_dag.proofs.OrderKept.{stays_so}
use Rattle.daggy_dag.proofs.acyclic.Acyclic.from_slots.Goals as goal

pub sorted_order-requires : goal.sorted_order-requires
sorted_order-requires g c =
    omega (
      arith,
      bound_low (g.S.EdgeSource.graph c.in-Ok.store).nodes,
      c.node_slots.ensures,
      c.in-Ok-reserve.ensures.ok.0,
    )

pub from_parts-requires : goal.from_parts-requires
from_parts-requires g c =
    let low = bound_low (g.S.EdgeSource.graph c.in-Ok.store).nodes in
    let fits : node_bound (g.S.EdgeSource.graph c.in-Ok.store) ≤ c.reserve.new.self.nodes =
    omega (arith, low, c.node_slots.ensures, c.in-Ok-reserve.ensures.ok.0) in
    let capacity : c.sorted_order.new.scratch.nodes ≡ c.reserve.new.self.nodes =
    ap (λ (z : Room _). z.nodes) c.sorted_order.ensures.same_capacity in
    let ordered =
    value_holds _ c.in-Ok-Some.field-0 c.in-Ok-Some.order c.in-Ok-Some.field-0-is c.in-Ok-Some.ensures.ordered in
    stays_so c.in-Ok-Some.order c.sorted_order.new.scratch.nodes _ _ c.sorted_order.ensures.same
    (ordered, omega (arith, fits, capacity))

pub returns-in-Ok-None-clause-cycle : goal.returns-in-Ok-None-clause-cycle
returns-in-Ok-None-clause-cycle g c =
    let P : Graph _ _ → Type 0 = λ z. IsAcyclic z in
    λ _ a.
    none_holds c.in-Ok-None.field-0 c.in-Ok-None.field-0-is c.in-Ok-None.ensures.cyclic
    (subst P (sym c.in-Ok.ensures.graph) a)
