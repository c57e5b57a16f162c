use Rattle.std.proofs.Common.{◌≡◌, ◌++◌, map, length}
use Rattle.daggy_base.specs.Graph.{list_at}
use Rattle.daggy_dag.specs.Walks.{rest_of_walk}
use Rattle.daggy_operators.proofs.children.listed_edges.Given as goal

abbrev pub invariant-edges : goal.invariant-edges
invariant-edges g l =
    let graph = g.S.EdgeSource.graph l.store in
    map g.Ix.IndexType.number l.edges.items ++ rest_of_walk l.dir graph (g.Ix.IndexType.number l.cursor)
    ≡ list_at l.dir graph (g.Ix.IndexType.number l.fn.n)

abbrev pub decreases-edges : goal.decreases-edges
decreases-edges g l = length (rest_of_walk l.dir (g.S.EdgeSource.graph l.store) (g.Ix.IndexType.number l.cursor))
