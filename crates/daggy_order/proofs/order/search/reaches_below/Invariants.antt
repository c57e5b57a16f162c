use Rattle.std.proofs.Common.{◌≡◌, ◌+◌, ◌-◌, ◌*◌, ◌≤◌, drop, take}
use Rattle.daggy_base.specs.Graph.{edge_count}
use Rattle.daggy_order.proofs.BoundedSearch.{SearchingBelow, Finding}
use Rattle.daggy_order.proofs.order.search.reaches_below.Given as goal

abbrev pub invariant-steps : goal.invariant-steps
invariant-steps g l =
    SearchingBelow g.Ix.IndexType.greatest l.links.labels l.limit (g.Ix.IndexType.number l.fn.to) record {
      graph = g.S.EdgeSource.graph l.fn.source;
      from = g.Ix.IndexType.number l.fn.from;
      size = l.fn.work.size;
      looks = g.S.EdgeSource.looks l.fn.source;
    } record {
      graph = g.S.EdgeSource.graph l.source;
      work = l.work;
      waiting = drop l.head (take l.tail l.work.nodes);
      edge = g.Ix.IndexType.number l.e;
      looks = g.S.EdgeSource.looks l.source;
    }
    × Finding l.work.entered l.work.nodes l.count × (l.head ≤ l.tail) × (l.tail ≤ l.count)
    × (g.S.EdgeSource.looks l.source ≡ g.S.EdgeSource.looks l.fn.source + l.looks)

abbrev pub decreases-steps : goal.decreases-steps
decreases-steps g l =
    2
    * (edge_count (g.S.EdgeSource.graph l.fn.source) + g.S.EdgeSource.looks l.fn.source - g.S.EdgeSource.looks l.source)
    + (l.tail - l.head)
