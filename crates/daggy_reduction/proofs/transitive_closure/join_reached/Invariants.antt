use Rattle.std.proofs.Common.{◌+◌, ◌-◌, length}
use Rattle.daggy_base.specs.Graph.{out_list}
use Rattle.daggy_reduction.proofs.Closing.{Joining}
use Rattle.daggy_reduction.proofs.transitive_closure.join_reached.Given as goal

abbrev pub invariant-edges : goal.invariant-edges
invariant-edges g l =
    Joining record {
      end = g.Ix.IndexType.greatest;
      graph = g.S.EdgeSource.graph l.fn.source;
      node = g.Ix.IndexType.number l.fn.n;
      before = l.fn.matrix;
      looks = g.S.EdgeSource.looks l.fn.source;
    } record {
      graph = g.S.EdgeSource.graph l.source;
      edge = g.Ix.IndexType.number l.e;
      looks = g.S.EdgeSource.looks l.source;
      matrix = l.matrix;
    }

abbrev pub decreases-edges : goal.decreases-edges
decreases-edges g l =
    length (out_list (g.S.EdgeSource.graph l.fn.source) (g.Ix.IndexType.number l.fn.n))
    + g.S.EdgeSource.looks l.fn.source - g.S.EdgeSource.looks l.source
