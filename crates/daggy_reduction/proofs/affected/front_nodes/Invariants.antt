use Rattle.std.proofs.Common.{◌≡◌, map, take}
use Rattle.daggy_reduction.proofs.affected.front_nodes.Given as goal

abbrev pub invariant-nodes : goal.invariant-nodes
invariant-nodes g l = map g.Ix.IndexType.number l.found.items ≡ take l.i l.fn.work.nodes
