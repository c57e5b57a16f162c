use Rattle.std.proofs.Common.{◌≤◌}
use Rattle.daggy_base.specs.Graph.{edge_count}
use Rattle.daggy_guard.proofs.ExtendAllLoop.{Extending, FewLooks}
use Rattle.daggy_guard.proofs.guard.Guarded.extend_all.Given as goal

abbrev pub invariant-items : goal.invariant-items
invariant-items g l = record {
  can : (goal.iterator-items g).can_next l.item-iterator;
  ends : (goal.iterator-items g).is_finite l.item-iterator;
  extending : Extending g.S.NodeWeight.Default.is_default g.Ix.IndexType.number g.Ix.IndexType.greatest
      g.T.IntoWeightedEdge.edge_gives l.fn.self.graph record { graph = l.self.graph; given = l.yielded };
  looked : l.fn.self.looks ≤ l.self.looks;
  few : FewLooks (edge_count l.fn.self.graph) l.fn.self.looks (edge_count l.self.graph) l.self.looks;
}
