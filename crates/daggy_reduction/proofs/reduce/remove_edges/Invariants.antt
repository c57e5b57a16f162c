use Rattle.daggy_reduction.proofs.EdgesRemovedDownward.{Removing}
use Rattle.std.proofs.Common.{map}
use Rattle.daggy_reduction.proofs.reduce.remove_edges.Given as goal

abbrev pub invariant-edges : goal.invariant-edges
invariant-edges g l =
    Removing g.S.ReadStore.KIND (g.S.EdgeSource.graph l.fn.store) (g.S.EdgeSource.graph l.store)
    (map g.Ix.IndexType.number l.fn.edges) l.left
    (g.S.EdgeSource.looks l.fn.store) (g.S.EdgeSource.looks l.store)

abbrev pub decreases-edges : goal.decreases-edges
decreases-edges g l = l.left
