use Rattle.std.proofs.Common.{length}
use Rattle.daggy_base.specs.declared.index.Direction.TheVariants.{Incoming}
use Rattle.daggy_dag.specs.Walks.{rest_of_walk}
use Rattle.example_callers.proofs.seen.has_later_parent.Given as goal

abbrev pub decreases-up : goal.decreases-up
decreases-up g l = length (rest_of_walk Incoming l.dag.graph (g.Ix.IndexType.number l.walker))
