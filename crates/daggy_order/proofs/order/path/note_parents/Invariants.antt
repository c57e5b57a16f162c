use Rattle.std.proofs.Common.{◌+◌, ◌-◌, ◌*◌, ◌<◌, drop, take}
use Rattle.daggy_base.specs.Graph.{edge_count}
use Rattle.daggy_order.proofs.BoundedSearch.{Finding}
use Rattle.daggy_order.proofs.NotedParents.{Noting}
use Rattle.daggy_order.proofs.order.path.note_parents.Given as goal

abbrev pub invariant-steps : goal.invariant-steps
invariant-steps g l =
    Noting g.Ix.IndexType.greatest l.links.labels l.limit (g.Ix.IndexType.number l.fn.to) record {
      graph = g.S.EdgeSource.graph l.fn.source;
      from = g.Ix.IndexType.number l.fn.from;
      size = l.fn.work.size;
      looks = g.S.EdgeSource.looks l.fn.source;
    } record {
      graph = g.S.EdgeSource.graph l.source;
      work = l.work;
      waiting = drop (l.head + 1) (take l.count l.work.nodes);
      edge = g.Ix.IndexType.number l.e;
      looks = g.S.EdgeSource.looks l.source;
    } l.u
    × Finding l.work.entered l.work.nodes l.count × (l.head < l.count)

abbrev pub decreases-steps : goal.decreases-steps
decreases-steps g l =
    2
    * (edge_count (g.S.EdgeSource.graph l.fn.source) + g.S.EdgeSource.looks l.fn.source - g.S.EdgeSource.looks l.source)
    + (l.count - l.head)
