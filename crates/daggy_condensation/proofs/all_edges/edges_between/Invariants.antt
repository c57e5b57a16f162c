use Rattle.daggy_base.specs.FromSlots.{edges_by}
use Rattle.daggy_base.specs.Mapping.{weight_in}
use Rattle.daggy_base.proofs.CallsInTurn.{CanCallSomeFrom}
use Rattle.daggy_condensation.proofs.KeptEdges.{KeptBelow}
use Rattle.daggy_condensation.proofs.all_edges.edges_between.Given as goal

abbrev pub invariant-edges : goal.invariant-edges
invariant-edges g l =
    let graph = g.S.EdgeSource.graph l.store in
    record {
      can : CanCallSomeFrom g.Ix.IndexType.of (goal.F-pre g) (goal.F-step g) weight_in graph.edges l.f l.i;
      kept : KeptBelow (goal.F-step g) g.Ix.IndexType.of l.components l.fn.f graph.edges l.f
          (edges_by g.Ix.IndexType.number l.slots.items) l.i;
    }
