use Rattle.std.proofs.Common.{◌≡◌, map, take}
use Rattle.daggy_cycles.proofs.with_edges.indices_as.Given as goal

abbrev pub invariant-nodes : goal.invariant-nodes
invariant-nodes g l =
    map g.Ix.IndexType.number l.indices.items ≡ take l.k (map g.Jx.IndexType.number l.nodes)
