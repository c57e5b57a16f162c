use Rattle.daggy_order.proofs.OrderLaws.{acyclic_from_order}
use Rattle.daggy_dag.proofs.OrderKept.{kept_without_edges}
use Rattle.daggy_dag.proofs.acyclic.Acyclic.clear_edges.Goals as goal

pub invariant_of-self-inside : goal.invariant_of-self-inside
invariant_of-self-inside g c = kept_without_edges _ _ _ _ c.clear_edges.ensures.cleared c.self-inside.invariant

pub returns-clause-acyclic : goal.returns-clause-acyclic
returns-clause-acyclic g c = acyclic_from_order _ (invariant_of-self-inside g c).0
