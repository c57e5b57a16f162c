use Rattle.std.proofs.Common.{length, take}
use Rattle.daggy_reduction.proofs.ListedArcs.{Siding}
use Rattle.daggy_reduction.proofs.arcs.AlongListsListArcs.list_arcs.Given as goal

abbrev pub invariant-nodes : goal.invariant-nodes
invariant-nodes g l =
    Siding g.Ix.IndexType.number record {
      end = g.Ix.IndexType.greatest;
      graph = g.S.EdgeSource.graph l.fn.source;
      nodes = take l.fn.count l.fn.work.nodes;
      places = l.fn.work.cursors;
      arcs = length l.fn.arcs;
      segments = length l.fn.segments;
      looks = g.S.EdgeSource.looks l.fn.source;
    } record {
      graph = g.S.EdgeSource.graph l.source;
      nodes = l.k;
      looks = g.S.EdgeSource.looks l.source;
      arcs = l.arcs;
      stop = l.end;
      segments = l.segments;
    }
