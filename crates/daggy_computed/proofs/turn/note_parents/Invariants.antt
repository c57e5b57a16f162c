use Rattle.std.proofs.Common.{◌≡◌, ◌++◌, length}
use Rattle.daggy_base.specs.Graph.{in_list}
use Rattle.daggy_base.specs.declared.index.Direction.TheVariants.{Incoming}
use Rattle.daggy_dag.specs.Walks.{rest_of_walk}
use Rattle.daggy_computed.specs.Cells.{cells, values_of, HaveValues}
use Rattle.daggy_computed.specs.Inputs.{values_at}
use Rattle.daggy_computed.specs.Marking.{far_nodes}
use Rattle.daggy_computed.proofs.turn.note_parents.Given as goal

abbrev pub invariant-parents : goal.invariant-parents
invariant-parents g l =
    let graph = g.S.EdgeSource.graph l.store in
    let number = g.Ix.IndexType.number in
    record {
      noted : values_of l.entries l.parents.items
          ++ values_at (cells graph l.entries) (far_nodes Incoming graph (rest_of_walk Incoming graph (number l.cursor)))
          ≡ values_at (cells graph l.entries) (far_nodes Incoming graph (in_list graph (number l.fn.n)));
      have : HaveValues l.entries l.parents.items;
    }

abbrev pub decreases-parents : goal.decreases-parents
decreases-parents g l = length (rest_of_walk Incoming (g.S.EdgeSource.graph l.store) (g.Ix.IndexType.number l.cursor))
