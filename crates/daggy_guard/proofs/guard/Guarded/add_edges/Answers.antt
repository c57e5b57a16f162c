use Rattle.daggy_order.proofs.OrderLaws.{acyclic_from_order}
use Rattle.daggy_guard.proofs.guard.Guarded.add_edges.Goals as goal

pub returns-clause-acyclic : goal.returns-clause-acyclic
returns-clause-acyclic g c = acyclic_from_order _ c.add_all.ensures.ordered
