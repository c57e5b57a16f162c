use Rattle.daggy_order.proofs.OrderSteps.{GoingOn}
use Rattle.daggy_order.proofs.list.LabeledList.at.Given as goal

abbrev pub invariant-nodes : goal.invariant-nodes
invariant-nodes g l = GoingOn g.Ix.IndexType.greatest l.self-inside.links.nodes l.at l._i
