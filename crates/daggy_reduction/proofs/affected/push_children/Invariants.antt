use Rattle.std.proofs.Common.{◌+◌, ◌-◌, length, map}
use Rattle.daggy_base.specs.Graph.{out_list}
use Rattle.daggy_base.proofs.Lists.{Mem}
use Rattle.daggy_reduction.proofs.Children.{Looking}
use Rattle.daggy_reduction.proofs.ListedChildren.{Listing}
use Rattle.daggy_reduction.proofs.affected.push_children.Given as goal

abbrev pub invariant-edges : goal.invariant-edges
invariant-edges g l =
    record {
      looking : Looking g.Ix.IndexType.greatest (g.S.EdgeSource.graph l.fn.source) (g.S.EdgeSource.graph l.source)
          (g.Ix.IndexType.number l.fn.u) (g.Ix.IndexType.number l.e) (g.S.EdgeSource.looks l.fn.source)
          (g.S.EdgeSource.looks l.source) (λ n. Mem n (map g.Ix.IndexType.number l.children.items));
      listing : Listing (g.S.EdgeSource.graph l.fn.source) (g.Ix.IndexType.number l.fn.u)
          (map g.Ix.IndexType.number l.fn.children.items) (map g.Ix.IndexType.number l.children.items);
    }

abbrev pub decreases-edges : goal.decreases-edges
decreases-edges g l =
    length (out_list (g.S.EdgeSource.graph l.fn.source) (g.Ix.IndexType.number l.fn.u))
    + g.S.EdgeSource.looks l.fn.source - g.S.EdgeSource.looks l.source
