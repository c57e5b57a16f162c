use Rattle.std.proofs.Common.{ℕ, ◌↔◌, map, take}
use Rattle.daggy_base.specs.Graph.{pair_of}
use Rattle.daggy_cycles.specs.Linking.{IsLinked, AreJoinedBelow}
use Rattle.daggy_cycles.specs.WithPairs.{AreJoinedWith}
use Rattle.daggy_cycles.proofs.with_edges.edge_slots.Given as goal

abbrev pub invariant-old : goal.invariant-old
invariant-old g l =
    (u v : ℕ) → IsLinked g.Jx.IndexType.number l.slots.items u v ↔ AreJoinedBelow (g.S.EdgeSource.graph l.store) l.i u v

abbrev pub invariant-new : goal.invariant-new
invariant-new g l =
    (u v : ℕ) → IsLinked g.Jx.IndexType.number l.slots.items u v
    ↔ AreJoinedWith (g.S.EdgeSource.graph l.store) (take l.k (map (pair_of g.Ix.IndexType.number) l.edges)) u v
