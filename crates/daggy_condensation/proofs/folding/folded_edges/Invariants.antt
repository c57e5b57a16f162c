use Rattle.std.proofs.Common.{◌+◌, ◌-◌, length}
use Rattle.daggy_base.specs.Graph.{edge_count}
use Rattle.daggy_base.specs.FromSlots.{edges_by}
use Rattle.daggy_components.proofs.Condensing.{before}
use Rattle.daggy_components.proofs.EarlierSlots.{AreEarlier}
use Rattle.daggy_condensation.proofs.FoldingAll.{Listed, Reading}
use Rattle.daggy_condensation.proofs.folding.folded_edges.Given as goal

abbrev pub invariant-components : goal.invariant-components
invariant-components g l =
    Listed (goal.F-post g l.f) g.Ix.IndexType.of record {
      graph = g.S.EdgeSource.graph l.store;
      looks = 0;
    } l.components l.j (before l.components l.j) l.source l.found.items
    (edges_by g.Ix.IndexType.number l.slots.items)
    × AreEarlier (length (edges_by g.Ix.IndexType.number l.slots.items)) l.j (edges_by g.Ix.IndexType.number l.slots.items)

abbrev pub invariant-members : goal.invariant-members
invariant-members g l =
    Listed (goal.F-post g l.f) g.Ix.IndexType.of record {
      graph = g.S.EdgeSource.graph l.store;
      looks = 0;
    } l.components l.j (before l.components l.j + l.n-index) l.source l.found.items
    (edges_by g.Ix.IndexType.number l.slots.items)
    × AreEarlier l.begin l.j (edges_by g.Ix.IndexType.number l.slots.items)

abbrev pub invariant-edges : goal.invariant-edges
invariant-edges g l =
    Reading (goal.F-post g l.f) g.Ix.IndexType.of record {
      graph = g.S.EdgeSource.graph l.store;
      looks = 0;
    } l.components g.Ix.IndexType.greatest l.j (before l.components l.j + l.n-index) l.source l.found.items
    (edges_by g.Ix.IndexType.number l.slots.items) (g.Ix.IndexType.number l.e)
    × AreEarlier l.begin l.j (edges_by g.Ix.IndexType.number l.slots.items)

abbrev pub decreases-edges : goal.decreases-edges
decreases-edges g l = edge_count (g.S.EdgeSource.graph l.store) - l.source.looks
