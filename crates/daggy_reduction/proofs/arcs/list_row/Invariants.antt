use Rattle.std.proofs.Common.{◌+◌, ◌-◌, length}
use Rattle.daggy_base.specs.Graph.{out_list}
use Rattle.daggy_reduction.proofs.ListedArcs.{Listing}
use Rattle.daggy_reduction.proofs.arcs.list_row.Given as goal

abbrev pub invariant-edges : goal.invariant-edges
invariant-edges g l =
    Listing g.Ix.IndexType.number record {
      end = g.Ix.IndexType.greatest;
      graph = g.S.EdgeSource.graph l.fn.source;
      node = g.Ix.IndexType.number l.fn.u;
      places = l.fn.work.cursors;
      begin = l.fn.begin;
      before = l.fn.arcs;
      looks = g.S.EdgeSource.looks l.fn.source;
    } record {
      graph = g.S.EdgeSource.graph l.source;
      edge = g.Ix.IndexType.number l.e;
      looks = g.S.EdgeSource.looks l.source;
      arcs = l.arcs;
      stop = l.end;
    }

abbrev pub decreases-edges : goal.decreases-edges
decreases-edges g l =
    length (out_list (g.S.EdgeSource.graph l.fn.source) (g.Ix.IndexType.number l.fn.u))
    + g.S.EdgeSource.looks l.fn.source - g.S.EdgeSource.looks l.source
