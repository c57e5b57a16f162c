use Rattle.daggy_cells.specs.Raw.{raw_first}
use Rattle.daggy_stable.specs.Stored.{weight_of}
use Rattle.daggy_cells.proofs.WrittenSlots.{WrittenBelow}
use Rattle.daggy_stable.proofs.stable_graph.rewriting.write_nodes.Given as goal

abbrev pub invariant-each : goal.invariant-each
invariant-each g l =
    WrittenBelow g.Ix.IndexType.of (goal.F-pre g) (goal.F-step g) (λ w. w) (λ w v. v) weight_of
    raw_first l.fn.f l.fn.nodes.items l.f l.nodes.items l.i
