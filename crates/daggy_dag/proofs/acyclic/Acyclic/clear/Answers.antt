use Rattle.daggy_order.proofs.OrderLaws.{acyclic_from_order}
use Rattle.daggy_dag.proofs.OrderKept.{kept_empty}
use Rattle.daggy_dag.proofs.acyclic.Acyclic.clear.Goals as goal

pub invariant_of-self-inside : goal.invariant_of-self-inside
invariant_of-self-inside g c = kept_empty _ _ _ c.clear.ensures.cleared c.clear-2.ensures

pub returns-clause-acyclic : goal.returns-clause-acyclic
returns-clause-acyclic g c = acyclic_from_order _ (invariant_of-self-inside g c).0
