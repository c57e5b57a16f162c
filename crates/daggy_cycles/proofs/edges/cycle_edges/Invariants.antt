use Rattle.std.proofs.Common.{map}
use Rattle.daggy_cycles.proofs.CycleEdges.{AreEdgesSoFar}
use Rattle.daggy_cycles.proofs.edges.cycle_edges.Given as goal

abbrev pub invariant-nodes : goal.invariant-nodes
invariant-nodes g l =
    AreEdgesSoFar (g.S.EdgeSource.graph l.store) (map g.Ix.IndexType.number l.cycle)
    (map g.Ix.IndexType.number l.edges.items) l.k
