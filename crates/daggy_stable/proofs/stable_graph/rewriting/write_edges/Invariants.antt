use Rattle.daggy_base.specs.Mapping.{weight_in, with_weight}
use Rattle.daggy_cells.specs.Raw.{raw_next}
use Rattle.daggy_stable.specs.Stored.{plain_edge}
use Rattle.daggy_cells.proofs.WrittenSlots.{WrittenBelow}
use Rattle.daggy_stable.proofs.stable_graph.rewriting.write_edges.Given as goal

abbrev pub invariant-each : goal.invariant-each
invariant-each g l =
    WrittenBelow g.Ix.IndexType.of (goal.F-pre g) (goal.F-step g) weight_in with_weight plain_edge
    raw_next l.fn.f l.fn.edges.items l.f l.edges.items l.i
