use Rattle.daggy_order.proofs.OrderLaws.{acyclic_from_order}
use Rattle.tests_order.proofs.tests.kept.Kept.are_redundant.Goals as goal

pub redundant_edges-found-requires-clause-acyclic : goal.redundant_edges-found-requires-clause-acyclic
redundant_edges-found-requires-clause-acyclic g c = acyclic_from_order c.self.inside.order c.self.invariant.0
