use Rattle.std.proofs.Common.{ℕ, ◌-◌}
use Rattle.daggy_search.specs.Work.{IsSized}
use Rattle.daggy_reduction.proofs.NotedEdges.{Noted, LastNoted}
use Rattle.daggy_reduction.proofs.SeenEdges.{EdgesSeen}
use Rattle.daggy_reduction.proofs.spans.note_edges.Given as goal

abbrev pub invariant-edges : goal.invariant-edges
invariant-edges g l =
    record {
      sized : IsSized l.fn.work.size l.work;
      noted : (n : ℕ)
          → Noted (g.S.EdgeSource.graph l.fn.source) g.Ix.IndexType.greatest l.e l.work.cursors l.work.nodes n;
      last : LastNoted (g.S.EdgeSource.graph l.fn.source) l.fn.order g.Ix.IndexType.greatest l.e l.work.nodes;
      seen : EdgesSeen (g.S.EdgeSource.graph l.fn.source) (g.S.EdgeSource.graph l.source) l.e
          (g.S.EdgeSource.looks l.fn.source) (g.S.EdgeSource.looks l.source);
    }

abbrev pub decreases-edges : goal.decreases-edges
decreases-edges g l = l.bound - l.e
