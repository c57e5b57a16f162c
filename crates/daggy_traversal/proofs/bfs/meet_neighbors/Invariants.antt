use Rattle.std.proofs.Common.{◌≤◌, length, vec_capacity}
use Rattle.daggy_traversal.specs.Traversal.{neighbors, neighbors_left}
use Rattle.daggy_traversal.proofs.Fresh.{with_fresh}
use Rattle.daggy_traversal.proofs.Meeting.{Meeting}
use Rattle.daggy_traversal.proofs.bfs.meet_neighbors.Given as goal

abbrev pub invariant-edges : goal.invariant-edges
invariant-edges g l =
    let all =
    with_fresh l.fn.queue.items (neighbors l.dir (g.S.EdgeSource.graph l.graph) (g.Ix.IndexType.number l.fn.n)) in
    record {
      meeting : Meeting l.dir (g.S.EdgeSource.graph l.graph) all (length l.fn.met) l.met l.queue.items
          (g.Ix.IndexType.number l.e);
      room : length l.fn.met ≤ vec_capacity l.queue;
    }

abbrev pub decreases-edges : goal.decreases-edges
decreases-edges g l = length (neighbors_left l.dir (g.S.EdgeSource.graph l.graph) (g.Ix.IndexType.number l.e))
