use Rattle.std.proofs.Common.{◌+◌, ◌-◌, ◌*◌, take}
use Rattle.daggy_base.specs.Graph.{edge_count}
use Rattle.daggy_redundant.proofs.QueueState.{Draining}
use Rattle.daggy_redundant.proofs.QueueProgress.{Anywhere, Nowhere}
use Rattle.daggy_redundant.proofs.bfs.bfs.Given as goal

abbrev pub invariant-steps : goal.invariant-steps
invariant-steps g l =
    Draining record {
      end = g.Ix.IndexType.greatest;
      graph = g.S.EdgeSource.graph l.fn.source;
      Inside = Anywhere;
      Beyond = Nowhere;
      starts = take l.fn.len l.fn.work.nodes;
      before = l.fn.work.marked;
    } record {
      begun = l.fn.work;
      looks = g.S.EdgeSource.looks l.fn.source;
    } record {
      graph = g.S.EdgeSource.graph l.source;
      work = l.work;
      len = l.len;
      head = l.head;
      edge = g.Ix.IndexType.number l.e;
      looks = g.S.EdgeSource.looks l.source;
    }

abbrev pub decreases-steps : goal.decreases-steps
decreases-steps g l =
    2
    * (edge_count (g.S.EdgeSource.graph l.fn.source) + g.S.EdgeSource.looks l.fn.source - g.S.EdgeSource.looks l.source)
    + (l.len - l.head)
