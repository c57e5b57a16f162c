use Rattle.std.proofs.Common.{◌≡◌, ◌≤◌, map, vec_len, vec_capacity}
use Rattle.daggy_guard.proofs.AddAllLoop.{Adding}
use Rattle.daggy_guard.proofs.edge_batch.add_all.Given as goal

abbrev pub invariant-items : goal.invariant-items
invariant-items g l = record {
  can : (goal.iterator-items g).can_next l.item-iterator;
  ends : (goal.iterator-items g).is_finite l.item-iterator;
  same : l.scratch ≡ l.fn.scratch;
  looked : g.S.EdgeSource.looks l.fn.store ≤ g.S.EdgeSource.looks l.store;
  adding : Adding g.Ix.IndexType.number g.Ix.IndexType.greatest g.S.ReadStore.KIND record {
    graph = g.S.EdgeSource.graph l.fn.store;
    room = l.fn.scratch.nodes;
    looks = g.S.EdgeSource.looks l.fn.store;
  } record {
    graph = g.S.EdgeSource.graph l.store;
    given = l.yielded;
    edges = map g.Ix.IndexType.number l.edges.items;
    slots = l.slot_count;
    weights = l.weights.items;
    weights_held = vec_len l.weights;
    edges_held = vec_len l.edges;
    capacity = vec_capacity l.weights;
    looks = g.S.EdgeSource.looks l.store;
    order = l.order;
    standing = l.standing;
  };
}
