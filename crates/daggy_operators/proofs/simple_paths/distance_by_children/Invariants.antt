use Rattle.std.proofs.Common.{length}
use Rattle.daggy_base.specs.declared.index.Direction.TheVariants.{Outgoing}
use Rattle.daggy_dag.specs.Walks.{rest_of_walk}
use Rattle.daggy_operators.proofs.Distances.{IsNearest}
use Rattle.daggy_operators.proofs.simple_paths.distance_by_children.Given as goal

abbrev pub invariant-edges : goal.invariant-edges
invariant-edges g l =
    IsNearest (g.S.EdgeSource.graph l.store) (g.Ix.IndexType.number l.fn.n) l.distances.items (g.Ix.IndexType.number l.e) l.least

abbrev pub decreases-edges : goal.decreases-edges
decreases-edges g l = length (rest_of_walk Outgoing (g.S.EdgeSource.graph l.store) (g.Ix.IndexType.number l.e))
