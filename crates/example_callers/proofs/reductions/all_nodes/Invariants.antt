use Rattle.std.proofs.Common.{◌++◌, map}
use Rattle.daggy_base.specs.Ordered.{IsOrderOf}
use Rattle.example_callers.proofs.reductions.all_nodes.Given as goal

abbrev pub invariant-loop-n : goal.invariant-loop-n
invariant-loop-n g l = IsOrderOf l.dag.graph (map g.Ix.IndexType.number l.nodes.items ++ l.n-iterator)
