use Rattle.std.proofs.Common.{◌≡◌, ◌++◌, map, length}
use Rattle.daggy_base.specs.Graph.{pair_of}
use Rattle.daggy_traversal.specs.OldestFirst.{steps}
use Rattle.daggy_traversal.specs.Traversal.{neighbors_left}
use Rattle.daggy_traversal.proofs.Listed.{steps_left}
use Rattle.daggy_traversal.proofs.oldest_first.listed_edges.Given as goal

abbrev pub invariant-edges : goal.invariant-edges
invariant-edges g l =
    let graph = g.S.EdgeSource.graph l.graph in
    map (pair_of g.Ix.IndexType.number) l.edges.items ++ steps_left l.dir graph (g.Ix.IndexType.number l.e)
    ≡ steps l.dir graph (g.Ix.IndexType.number l.fn.n)

abbrev pub decreases-edges : goal.decreases-edges
decreases-edges g l = length (neighbors_left l.dir (g.S.EdgeSource.graph l.graph) (g.Ix.IndexType.number l.e))
