use Rattle.std.proofs.Common.{◌≡◌, ◌++◌, map}
use Rattle.daggy_base.specs.Graph.{out_list}
use Rattle.daggy_base.specs.declared.index.Direction.TheVariants.{Outgoing}
use Rattle.daggy_walk.specs.Parts.{iter_walker, iter_graph}
use Rattle.daggy_dag.specs.Walks.{rest_of_walk}
use Rattle.example_callers.proofs.seen.edges_to_children.Given as goal

abbrev pub invariant-loop-step : goal.invariant-loop-step
invariant-loop-step g l =
    let number = g.Ix.IndexType.number in
    (map number l.seen.items ++ rest_of_walk Outgoing l.dag.graph (number (iter_walker l.step-iterator))
    ≡ out_list l.dag.graph (number l.fn.n))
    × ((iter_graph l.step-iterator).now ≡ l.dag)
