use Rattle.std.proofs.Common.{length}
use Rattle.daggy_operators.proofs.Distances.{AreMeasured}
use Rattle.daggy_operators.proofs.simple_paths.distances_to.Given as goal

abbrev pub invariant-nodes : goal.invariant-nodes
invariant-nodes g l =
    AreMeasured (g.S.EdgeSource.graph l.store) (g.Ix.IndexType.number l.fn.to) l.fn.order l.nodes l.distances.items

abbrev pub decreases-nodes : goal.decreases-nodes
decreases-nodes g l = length l.nodes
