use Rattle.std.proofs.Common.{◌≡◌, Some, map, take}
use Rattle.std.specs.List.{All}
use Rattle.daggy_base.specs.Graph.{HasNode}
use Rattle.daggy_named.specs.Naming.{index_by}
use Rattle.daggy_named.proofs.named.Named.nodes_of.Given as goal

abbrev pub invariant-items : goal.invariant-items
invariant-items g l = record {
  named :
      map (λ x. index_by (g.Q.Equivalent.equivalent x.0) l.self.keys) (take l.i l.items)
      ≡ map Some (map g.Ix.IndexType.number l.nodes.items);
  exist : All (λ n. HasNode l.self.graph (g.Ix.IndexType.number n)) l.nodes.items;
}
