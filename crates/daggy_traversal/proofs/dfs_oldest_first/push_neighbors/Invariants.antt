use Rattle.std.proofs.Common.{◌≡◌, ◌++◌, length, vec_capacity}
use Rattle.daggy_traversal.specs.Traversal.{neighbors, neighbors_left}
use Rattle.daggy_traversal.proofs.dfs_oldest_first.push_neighbors.Given as goal

abbrev pub invariant-edges : goal.invariant-edges
invariant-edges g l =
    let graph = g.S.EdgeSource.graph l.graph in
    record {
      pushed : l.stack.items ++ neighbors_left l.dir graph (g.Ix.IndexType.number l.e)
          ≡ l.fn.stack.items ++ neighbors l.dir graph (g.Ix.IndexType.number l.fn.n);
      room : vec_capacity l.stack ≡ vec_capacity l.fn.stack;
    }

abbrev pub decreases-edges : goal.decreases-edges
decreases-edges g l = length (neighbors_left l.dir (g.S.EdgeSource.graph l.graph) (g.Ix.IndexType.number l.e))
