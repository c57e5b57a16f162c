use Rattle.std.proofs.Common.{ℕ, List, map, vec_len, vec_capacity}
use Rattle.daggy_base.specs.Graph.{Graph}
use Rattle.daggy_guard.specs.BatchProgress.{IsBatchSoFar}
use Rattle.daggy_guard.specs.Parents.{edges_to}
use Rattle.daggy_guard.proofs.ParentsTakenBack.{PuttingBack, weights_put}
use Rattle.daggy_guard.proofs.parents.take_back_parents.Given as goal

abbrev pub invariant-steps : goal.invariant-steps
invariant-steps g l =
    (before : Graph g.row.S-NodeWeight.Denot g.row.S-EdgeWeight.Denot) (n : ℕ)
    (given : List (g.row.Ix.Denot × g.row.S-EdgeWeight.Denot))
    → IsBatchSoFar g.Ix.IndexType.greatest g.S.ReadStore.KIND before (g.S.EdgeSource.graph l.fn.store)
    (edges_to g.Ix.IndexType.number n given) (map g.Ix.IndexType.number l.edges) l.slot_count
    → PuttingBack g.Ix.IndexType.number g.Ix.IndexType.greatest g.S.ReadStore.KIND record {
      graph = before;
      items = edges_to g.Ix.IndexType.number n given;
      edges = map g.Ix.IndexType.number l.edges;
      slots = l.slot_count;
      looks = g.S.EdgeSource.looks l.fn.store;
    } n given l.fn.items.items record {
      graph = g.S.EdgeSource.graph l.store;
      left = l.left;
      weights = weights_put l.left given;
      weights_held = vec_len l.items;
      capacity = vec_capacity l.items;
      looks = g.S.EdgeSource.looks l.store;
    } l.items.items

abbrev pub decreases-steps : goal.decreases-steps
decreases-steps g l = l.left
