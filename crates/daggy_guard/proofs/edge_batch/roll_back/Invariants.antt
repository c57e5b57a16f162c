use Rattle.std.proofs.Common.{List, map, vec_len, vec_capacity}
use Rattle.daggy_base.specs.Graph.{Graph}
use Rattle.daggy_base.specs.Adding.{NewEdge}
use Rattle.daggy_guard.specs.BatchProgress.{IsBatchSoFar}
use Rattle.daggy_guard.proofs.EdgesRolledBack.{Rolling}
use Rattle.daggy_guard.proofs.edge_batch.roll_back.Given as goal

abbrev pub invariant-steps : goal.invariant-steps
invariant-steps g l =
    (before : Graph g.row.S-NodeWeight.Denot g.row.S-EdgeWeight.Denot) (xs : List (NewEdge g.row.S-EdgeWeight.Denot))
    → IsBatchSoFar g.Ix.IndexType.greatest g.S.ReadStore.KIND before (g.S.EdgeSource.graph l.fn.store) xs
    (map g.Ix.IndexType.number l.edges) l.slot_count
    → Rolling g.Ix.IndexType.greatest g.S.ReadStore.KIND record {
      graph = before;
      items = xs;
      edges = map g.Ix.IndexType.number l.edges;
      slots = l.slot_count;
      looks = g.S.EdgeSource.looks l.fn.store;
    } record {
      graph = g.S.EdgeSource.graph l.store;
      left = l.left;
      weights = l.weights.items;
      weights_held = vec_len l.weights;
      capacity = vec_capacity l.weights;
      looks = g.S.EdgeSource.looks l.store;
    }

abbrev pub decreases-steps : goal.decreases-steps
decreases-steps g l = l.left
