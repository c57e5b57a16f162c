use Rattle.std.proofs.Common.{◌+◌, ◌-◌, ◌*◌, ◌∷◌, [], length}
use Rattle.daggy_base.specs.Graph.{out_list, edge_count}
use Rattle.daggy_reduction.proofs.QueuedChildren.{Beginning}
use Rattle.daggy_reduction.proofs.BoundedQueue.{Inside, Beyond}
use Rattle.daggy_redundant.proofs.QueueState.{Draining}
use Rattle.daggy_reduction.proofs.bounded.mark_indirect_children.Given as goal

abbrev pub invariant-children : goal.invariant-children
invariant-children g l =
    Beginning record {
      end = g.Ix.IndexType.greatest;
      graph = g.S.EdgeSource.graph l.fn.source;
      order = l.order;
      node = g.Ix.IndexType.number l.fn.u;
      begun = l.fn.work;
      looks = g.S.EdgeSource.looks l.fn.source;
    } record {
      graph = g.S.EdgeSource.graph l.source;
      work = l.work;
      len = l.len;
      last = g.Ix.IndexType.number l.last;
      edge = g.Ix.IndexType.number l.e;
      looks = g.S.EdgeSource.looks l.source;
    }

abbrev pub decreases-children : goal.decreases-children
decreases-children g l =
    length (out_list (g.S.EdgeSource.graph l.fn.source) (g.Ix.IndexType.number l.fn.u))
    + g.S.EdgeSource.looks l.fn.source - g.S.EdgeSource.looks l.source

abbrev pub invariant-steps : goal.invariant-steps
invariant-steps g l =
    Draining record {
      end = g.Ix.IndexType.greatest;
      graph = g.S.EdgeSource.graph l.fn.source;
      Inside = Inside l.order (g.Ix.IndexType.number l.last);
      Beyond = Beyond l.order (g.Ix.IndexType.number l.last);
      starts = g.Ix.IndexType.number l.fn.u ∷ [];
      before = l.fn.work.marked;
    } record {
      begun = l.fn.work;
      looks = g.S.EdgeSource.looks l.fn.source;
    } record {
      graph = g.S.EdgeSource.graph l.source;
      work = l.work;
      len = l.len;
      head = l.head;
      edge = g.Ix.IndexType.number l.e;
      looks = g.S.EdgeSource.looks l.source;
    }

abbrev pub decreases-steps : goal.decreases-steps
decreases-steps g l =
    2
    * (edge_count (g.S.EdgeSource.graph l.fn.source) + g.S.EdgeSource.looks l.fn.source - g.S.EdgeSource.looks l.source)
    + (l.len - l.head)
