use Rattle.daggy_order.proofs.OrderSteps.{Seeking}
use Rattle.daggy_order.proofs.list.LabeledList.place.Given as goal

abbrev pub invariant-nodes : goal.invariant-nodes
invariant-nodes g l = Seeking g.Ix.IndexType.greatest l.self-inside.links.nodes l.i l.at l.place
