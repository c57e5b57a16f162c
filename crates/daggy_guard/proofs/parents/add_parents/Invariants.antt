use Rattle.std.proofs.Common.{◌≡◌, map, vec_len, vec_capacity}
use Rattle.daggy_guard.proofs.ParentsTakenBack.{InTurn}
use Rattle.daggy_guard.proofs.parents.add_parents.Given as goal

abbrev pub invariant-items : goal.invariant-items
invariant-items g l = record {
  looks : g.S.EdgeSource.looks l.store ≡ g.S.EdgeSource.looks l.fn.store;
  turn : InTurn g.Ix.IndexType.number g.Ix.IndexType.greatest g.S.ReadStore.KIND (g.S.EdgeSource.graph l.fn.store)
      (g.Ix.IndexType.number l.n) l.fn.items.items record {
        graph = g.S.EdgeSource.graph l.store;
        left = l.left.items;
        left_count = vec_len l.left;
        left_capacity = vec_capacity l.left;
        edges = map g.Ix.IndexType.number l.edges.items;
        edge_count = vec_len l.edges;
        edge_capacity = vec_capacity l.edges;
        slots = l.slot_count;
      };
}

abbrev pub decreases-items : goal.decreases-items
decreases-items g l = vec_len l.left
