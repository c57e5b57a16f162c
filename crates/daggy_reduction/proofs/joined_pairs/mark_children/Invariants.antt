use Rattle.std.proofs.Common.{◌≡◌, ◌+◌, ◌-◌, true, false, length, get_or}
use Rattle.daggy_base.specs.Graph.{out_list}
use Rattle.daggy_reduction.proofs.Children.{Looking, Marking}
use Rattle.daggy_reduction.proofs.joined_pairs.mark_children.Given as goal

abbrev pub invariant-edges : goal.invariant-edges
invariant-edges g l =
    record {
      looking : Looking g.Ix.IndexType.greatest (g.S.EdgeSource.graph l.fn.source) (g.S.EdgeSource.graph l.source)
          (g.Ix.IndexType.number l.fn.u) (g.Ix.IndexType.number l.e) (g.S.EdgeSource.looks l.fn.source)
          (g.S.EdgeSource.looks l.source) (λ n. get_or l.work.marked n false ≡ true);
      marking : Marking (g.S.EdgeSource.graph l.fn.source) (g.Ix.IndexType.number l.fn.u) l.fn.work.marked
          l.work.marked;
      size : l.work.size ≡ l.fn.work.size;
    }

abbrev pub decreases-edges : goal.decreases-edges
decreases-edges g l =
    length (out_list (g.S.EdgeSource.graph l.fn.source) (g.Ix.IndexType.number l.fn.u))
    + g.S.EdgeSource.looks l.fn.source - g.S.EdgeSource.looks l.source
