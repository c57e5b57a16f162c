use Rattle.std.proofs.Common.{◌≡◌, ◌+◌, length, take, drop}
use Rattle.daggy_order.proofs.order.Order.of_nodes.Given as goal

abbrev pub invariant-nodes : goal.invariant-nodes
invariant-nodes g l = (l.order ≡ take l.i (drop l.from l.work.nodes)) × (l.from + l.i-end ≡ length l.work.nodes)
