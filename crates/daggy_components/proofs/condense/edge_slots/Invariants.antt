use Rattle.std.proofs.Common.{◌+◌, ◌-◌, length}
use Rattle.daggy_base.specs.Graph.{edge_count}
use Rattle.daggy_base.specs.FromSlots.{edges_by}
use Rattle.daggy_components.proofs.Condensing.{Listed, Reading, before}
use Rattle.daggy_components.proofs.EarlierSlots.{AreEarlier}
use Rattle.daggy_components.proofs.condense.edge_slots.Given as goal

abbrev pub invariant-components : goal.invariant-components
invariant-components g l =
    Listed g.Ix.IndexType.number record {
      graph = g.S.EdgeSource.graph l.fn.source;
      looks = g.S.EdgeSource.looks l.fn.source;
    } l.components l.j (before l.components l.j) record {
      graph = g.S.EdgeSource.graph l.source;
      looks = g.S.EdgeSource.looks l.source;
    } l.found.items (edges_by g.Ix.IndexType.number l.slots.items)
    × AreEarlier (length (edges_by g.Ix.IndexType.number l.slots.items)) l.j (edges_by g.Ix.IndexType.number l.slots.items)

abbrev pub invariant-members : goal.invariant-members
invariant-members g l =
    Listed g.Ix.IndexType.number record {
      graph = g.S.EdgeSource.graph l.fn.source;
      looks = g.S.EdgeSource.looks l.fn.source;
    } l.components l.j (before l.components l.j + l.n-index) record {
      graph = g.S.EdgeSource.graph l.source;
      looks = g.S.EdgeSource.looks l.source;
    } l.found.items (edges_by g.Ix.IndexType.number l.slots.items)
    × AreEarlier l.begin l.j (edges_by g.Ix.IndexType.number l.slots.items)

abbrev pub invariant-edges : goal.invariant-edges
invariant-edges g l =
    Reading g.Ix.IndexType.greatest g.Ix.IndexType.number record {
      graph = g.S.EdgeSource.graph l.fn.source;
      looks = g.S.EdgeSource.looks l.fn.source;
    } l.components l.j (before l.components l.j + l.n-index) record {
      graph = g.S.EdgeSource.graph l.source;
      looks = g.S.EdgeSource.looks l.source;
    } l.found.items (edges_by g.Ix.IndexType.number l.slots.items) (g.Ix.IndexType.number l.e)
    × AreEarlier l.begin l.j (edges_by g.Ix.IndexType.number l.slots.items)

abbrev pub decreases-edges : goal.decreases-edges
decreases-edges g l =
    edge_count (g.S.EdgeSource.graph l.fn.source) + g.S.EdgeSource.looks l.fn.source - g.S.EdgeSource.looks l.source
