use Rattle.std.proofs.Common.{length}
use Rattle.daggy_reduction.proofs.Closing.{Closing}
use Rattle.daggy_reduction.proofs.transitive_closure.transitive_closure.Given as goal

abbrev pub invariant-nodes : goal.invariant-nodes
invariant-nodes g l =
    Closing record {
      end = g.Ix.IndexType.greatest;
      graph = g.S.EdgeSource.graph l.fn.source;
      order = l.fn.order;
      looks = g.S.EdgeSource.looks l.fn.source;
    } record {
      graph = g.S.EdgeSource.graph l.source;
      left = l.nodes;
      looks = g.S.EdgeSource.looks l.source;
      matrix = l.matrix;
    }

abbrev pub decreases-nodes : goal.decreases-nodes
decreases-nodes g l = length l.nodes
