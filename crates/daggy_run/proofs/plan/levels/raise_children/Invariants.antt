use Rattle.std.proofs.Common.{length}
use Rattle.daggy_base.specs.declared.index.Direction.TheVariants.{Outgoing}
use Rattle.daggy_dag.specs.Walks.{rest_of_walk}
use Rattle.daggy_run.proofs.RaisedNodes.{Raising}
use Rattle.daggy_run.proofs.plan.levels.raise_children.Given as goal

abbrev pub invariant-edges : goal.invariant-edges
invariant-edges g l =
    Raising g.Ix.IndexType.greatest (g.D.GuardedDag.graph l.dag) (g.Ix.IndexType.number l.n) l.level l.fn.levels.items
    l.fn.parents.items l.levels.items l.parents.items (g.Ix.IndexType.number l.e)

abbrev pub decreases-edges : goal.decreases-edges
decreases-edges g l = length (rest_of_walk Outgoing (g.D.GuardedDag.graph l.dag) (g.Ix.IndexType.number l.e))
