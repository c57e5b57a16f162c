use Rattle.daggy_base.specs.Ordered.{IsOrderOf}
use Rattle.daggy_guard.proofs.parents.order_parents_without_search.Given as goal

abbrev pub invariant-items : goal.invariant-items
invariant-items g l = IsOrderOf (g.S.EdgeSource.graph l.fn.store) l.order
