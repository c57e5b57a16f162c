use Rattle.std.proofs.Common.{sym, subst}
use Rattle.daggy_base.specs.Graph.{Graph}
use Rattle.daggy_base.specs.Path.{IsAcyclic}
use Rattle.daggy_order.proofs.OrderLaws.{acyclic_from_order}
use Rattle.daggy_dag.proofs.acyclic.Acyclic.set_orders.Goals as goal

pub returns-clause-acyclic : goal.returns-clause-acyclic
returns-clause-acyclic g c =
    let P : Graph _ _ → Type 0 = λ z. IsAcyclic z in
    subst P (sym c.set_orders.ensures.ordered) (acyclic_from_order c.self-inside.inside.0.0.order c.self-inside.invariant.0)
