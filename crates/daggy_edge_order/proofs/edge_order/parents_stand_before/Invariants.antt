use Rattle.daggy_edge_order.proofs.ParentsAsked.{Asked}
use Rattle.daggy_edge_order.proofs.edge_order.parents_stand_before.Given as goal

abbrev pub invariant-parents : goal.invariant-parents
invariant-parents g l =
    Asked g.Ix.IndexType.greatest (g.S.EdgeSource.graph l.fn.store) l.fn.order (g.Ix.IndexType.number l.fn.a)
    (g.Ix.IndexType.number l.fn.b) (g.Ix.IndexType.number l.cursor)
