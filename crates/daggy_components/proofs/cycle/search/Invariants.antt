use Rattle.std.proofs.Common.{◌+◌, ◌-◌, ◌*◌}
use Rattle.daggy_base.specs.Graph.{edge_count}
use Rattle.daggy_search.proofs.SortNodesState.{Resting, Walking}
use Rattle.daggy_components.proofs.cycle.search.Given as goal

abbrev pub invariant-roots : goal.invariant-roots
invariant-roots g l =
    Resting g.Ix.IndexType.greatest record {
      graph = g.S.EdgeSource.graph l.fn.source;
      size = l.fn.work.size;
      looks = g.S.EdgeSource.looks l.fn.source;
    } l.i record {
      graph = g.S.EdgeSource.graph l.source;
      work = l.work;
      top = l.top;
      looks = g.S.EdgeSource.looks l.source;
    }

abbrev pub invariant-steps : goal.invariant-steps
invariant-steps g l =
    Walking g.Ix.IndexType.greatest record {
      graph = g.S.EdgeSource.graph l.fn.source;
      size = l.fn.work.size;
      looks = g.S.EdgeSource.looks l.fn.source;
    } (l.i + 1) record {
      graph = g.S.EdgeSource.graph l.source;
      work = l.work;
      top = l.top;
      looks = g.S.EdgeSource.looks l.source;
    } record {
      len = l.len;
      node = g.Ix.IndexType.number l.n;
      edge = g.Ix.IndexType.number l.e;
    }

abbrev pub decreases-steps : goal.decreases-steps
decreases-steps g l =
    2
    * (edge_count (g.S.EdgeSource.graph l.fn.source) + g.S.EdgeSource.looks l.fn.source - g.S.EdgeSource.looks l.source)
    + l.len
