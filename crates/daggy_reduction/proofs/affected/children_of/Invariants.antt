use Rattle.std.proofs.Common.{◌≡◌, ◌≤◌, ◌+◌, ◌-◌, length, map, take}
use Rattle.daggy_base.specs.Ordered.{edges_from}
use Rattle.daggy_reduction.proofs.ListedChildren.{ListingAll}
use Rattle.daggy_reduction.proofs.affected.children_of.Given as goal

abbrev pub invariant-nodes : goal.invariant-nodes
invariant-nodes g l =
    record {
      same : g.S.EdgeSource.graph l.source ≡ g.S.EdgeSource.graph l.fn.source;
      within : l.k ≤ length l.fn.nodes;
      looked : g.S.EdgeSource.looks l.fn.source ≤ g.S.EdgeSource.looks l.source;
      counted : g.S.EdgeSource.looks l.source ≤ g.S.EdgeSource.looks l.fn.source
          + edges_from (g.S.EdgeSource.graph l.fn.source) (take l.k (map g.Ix.IndexType.number l.fn.nodes));
      listing : ListingAll (g.S.EdgeSource.graph l.fn.source) (map g.Ix.IndexType.number l.fn.nodes) l.k
          (map g.Ix.IndexType.number l.children.items);
    }

abbrev pub decreases-nodes : goal.decreases-nodes
decreases-nodes g l = length l.fn.nodes - l.k
