use Rattle.std.proofs.Common.{◌≡◌, ◌+◌, ◌<◌, ◌^◌, length}
use Rattle.daggy_base.specs.Graph.{out_list}
use Rattle.daggy_base.specs.declared.index.Direction.TheVariants.{Outgoing}
use Rattle.daggy_walk.specs.Parts.{iter_walker, iter_graph}
use Rattle.daggy_dag.specs.Walks.{rest_of_walk}
use Rattle.example_callers.proofs.seen.number_of_children.Given as goal

abbrev pub invariant-loop : goal.invariant-loop
invariant-loop g l =
    let number = g.Ix.IndexType.number in
    let all = length (out_list l.dag.graph (number l.fn.n)) in
    (l.count + length (rest_of_walk Outgoing l.dag.graph (number (iter_walker l.iterator'))) ≡ all)
    × ((iter_graph l.iterator').now ≡ l.dag) × (all < 2 ^ 64)
