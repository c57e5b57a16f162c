use Rattle.std.proofs.Common.{length, map}
use Rattle.daggy_schedule.proofs.Late.{IsCollected}
use Rattle.daggy_schedule.proofs.schedule.late.nodes_in_order.Given as goal

abbrev pub invariant-nodes : goal.invariant-nodes
invariant-nodes g l = IsCollected l.dag.graph (map g.Ix.IndexType.number l.order.items) l.nodes

abbrev pub decreases-nodes : goal.decreases-nodes
decreases-nodes g l = length l.nodes
