use Rattle.std.proofs.Common.{length}
use Rattle.daggy_base.specs.declared.index.Direction.TheVariants.{Outgoing}
use Rattle.daggy_dag.specs.Walks.{rest_of_walk}
use Rattle.benchmarks.proofs.graph.children_sum.Given as goal

abbrev pub decreases-down : goal.decreases-down
decreases-down g l = length (rest_of_walk Outgoing l.dag.graph (g.Ix.IndexType.number l.walker))
