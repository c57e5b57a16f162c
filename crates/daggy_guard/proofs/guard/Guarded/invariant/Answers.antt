use Rattle.std.proofs.Common.{subst}
use Rattle.daggy_base.specs.WellFormed.{IsDag}
use Rattle.daggy_order.proofs.OrderLaws.{acyclic_from_order}
use Rattle.daggy_guard.proofs.guard.Guarded.invariant.Goals as goal

pub returns-clause-dag : goal.returns-clause-dag
returns-clause-dag g c =
    subst (λ s. IsDag g.Ix.IndexType.greatest s.graph) c.self.view_is
    (record {
      acyclic = acyclic_from_order c.self.inside.order c.self.invariant.0;
      well_formed = c.invariant.ensures.well_formed;
    })
