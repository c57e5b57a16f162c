use Rattle.daggy_base.specs.Mapping.{weight_in, with_weight}
use Rattle.daggy_cells.specs.Fields.{plain_edge}
use Rattle.daggy_cells.proofs.MappedSlots.{link_or_end}
use Rattle.daggy_cells.proofs.WrittenSlots.{WrittenBelow}
use Rattle.daggy_graph.proofs.graph.rewriting.write_edges.Given as goal

abbrev pub invariant-each : goal.invariant-each
invariant-each g l =
    WrittenBelow g.Ix.IndexType.of (goal.F-pre g) (goal.F-step g) weight_in with_weight plain_edge link_or_end l.fn.f
    l.fn.edges.items l.f l.edges.items l.i
