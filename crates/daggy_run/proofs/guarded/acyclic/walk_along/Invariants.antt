use Rattle.std.proofs.Common.{◌≡◌, ◌++◌, map, length}
use Rattle.daggy_base.specs.Graph.{pair_of}
use Rattle.daggy_dag.specs.Walks.{rest_of_walk}
use Rattle.daggy_run.specs.Steps.{walk_of}
use Rattle.daggy_run.proofs.ListedNeighbors.{items_of}
use Rattle.daggy_run.proofs.guarded.acyclic.walk_along.Given as goal

abbrev pub invariant-edges : goal.invariant-edges
invariant-edges g l =
    let graph = g.S.EdgeSource.graph l.store in
    map (pair_of g.Ix.IndexType.number) l.items.items
    ++ items_of l.dir graph (rest_of_walk l.dir graph (g.Ix.IndexType.number l.cursor))
    ≡ walk_of l.dir graph (g.Ix.IndexType.number l.fn.n)

abbrev pub decreases-edges : goal.decreases-edges
decreases-edges g l = length (rest_of_walk l.dir (g.S.EdgeSource.graph l.store) (g.Ix.IndexType.number l.cursor))
