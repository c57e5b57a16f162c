use Rattle.std.proofs.Common.{◌+◌, ◌-◌, ◌*◌, ◌≤◌, take}
use Rattle.daggy_base.specs.Graph.{edge_count}
use Rattle.daggy_search.proofs.SearchState.{SearchingFor}
use Rattle.daggy_search.proofs.reach.search.Given as goal

abbrev pub invariant-steps : goal.invariant-steps
invariant-steps g l =
    SearchingFor g.Ix.IndexType.greatest (g.Ix.IndexType.number l.fn.to) record {
      graph = g.S.EdgeSource.graph l.fn.source;
      from = g.Ix.IndexType.number l.fn.from;
      size = l.fn.work.size;
      looks = g.S.EdgeSource.looks l.fn.source;
    } record {
      graph = g.S.EdgeSource.graph l.source;
      work = l.work;
      waiting = take l.len l.work.nodes;
      edge = g.Ix.IndexType.number l.e;
      looks = g.S.EdgeSource.looks l.source;
    }
    × (l.len ≤ l.fn.work.size)

abbrev pub decreases-steps : goal.decreases-steps
decreases-steps g l =
    2
    * (edge_count (g.S.EdgeSource.graph l.fn.source) + g.S.EdgeSource.looks l.fn.source - g.S.EdgeSource.looks l.source)
    + l.len
