use Rattle.std.proofs.Common.{◌-◌, map, length}
use Rattle.daggy_paths.proofs.EdgesAlong.{Along}
use Rattle.daggy_paths.proofs.edges.edges_along.Given as goal

abbrev pub invariant-nodes : goal.invariant-nodes
invariant-nodes g l =
    Along (g.S.EdgeSource.graph l.store) (map g.Ix.IndexType.number l.nodes) l.at
    (map g.Ix.IndexType.number l.edges.items)

abbrev pub decreases-nodes : goal.decreases-nodes
decreases-nodes g l = length l.nodes - l.at
