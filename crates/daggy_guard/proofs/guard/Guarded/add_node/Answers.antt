use Rattle.daggy_order.proofs.OrderLaws.{acyclic_from_order}
use Rattle.daggy_guard.proofs.OrderAfterChange.{order_of_added}
use Rattle.daggy_guard.proofs.guard.Guarded.add_node.Goals as goal

pub invariant_of-self : goal.invariant_of-self
invariant_of-self g c = (
  order_of_added c.invariant.ensures.well_formed c.args.weight c.self.invariant.0 c.put_node.result _
      c.put_node.ensures.added c.put_node.ensures.unchanged c.put_node.ensures.put c.put_node.ensures.kept,
  c.put_node.ensures.fits,
)

pub returns-clause-acyclic : goal.returns-clause-acyclic
returns-clause-acyclic g c = acyclic_from_order _ (invariant_of-self g c).0
