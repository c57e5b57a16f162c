use Rattle.std.proofs.Common.{◌+◌, ◌-◌, length, map}
use Rattle.daggy_base.specs.Graph.{out_list}
use Rattle.daggy_redundant.proofs.FlaggedChildren.{Flagging}
use Rattle.daggy_redundant.proofs.flags.flag_marked.Given as goal

abbrev pub invariant-edges : goal.invariant-edges
invariant-edges g l =
    Flagging record {
      end = g.Ix.IndexType.greatest;
      graph = g.S.EdgeSource.graph l.fn.source;
      node = g.Ix.IndexType.number l.fn.u;
      marks = l.fn.work.marked;
      flags = map g.Ix.IndexType.number l.fn.flags;
      looks = g.S.EdgeSource.looks l.fn.source;
    } record {
      graph = g.S.EdgeSource.graph l.source;
      flags = map g.Ix.IndexType.number l.flags;
      edge = g.Ix.IndexType.number l.e;
      looks = g.S.EdgeSource.looks l.source;
    }

abbrev pub decreases-edges : goal.decreases-edges
decreases-edges g l =
    length (out_list (g.S.EdgeSource.graph l.fn.source) (g.Ix.IndexType.number l.fn.u))
    + g.S.EdgeSource.looks l.fn.source - g.S.EdgeSource.looks l.source
