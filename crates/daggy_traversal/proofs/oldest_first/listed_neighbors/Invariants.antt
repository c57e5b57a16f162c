use Rattle.std.proofs.Common.{◌≡◌, ◌++◌, map, length}
use Rattle.daggy_traversal.specs.Traversal.{neighbors, neighbors_left}
use Rattle.daggy_traversal.proofs.oldest_first.listed_neighbors.Given as goal

abbrev pub invariant-edges : goal.invariant-edges
invariant-edges g l =
    let graph = g.S.EdgeSource.graph l.graph in
    map g.Ix.IndexType.number l.nodes.items ++ neighbors_left l.dir graph (g.Ix.IndexType.number l.e)
    ≡ neighbors l.dir graph (g.Ix.IndexType.number l.fn.n)

abbrev pub decreases-edges : goal.decreases-edges
decreases-edges g l = length (neighbors_left l.dir (g.S.EdgeSource.graph l.graph) (g.Ix.IndexType.number l.e))
