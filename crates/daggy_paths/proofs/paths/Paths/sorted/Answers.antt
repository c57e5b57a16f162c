use Rattle.std.proofs.Common.{IfSome, IfNone, sym, subst}
use Rattle.daggy_base.specs.Ordered.{IsOrderOf}
use Rattle.daggy_base.specs.Path.{IsAcyclic}
use Rattle.daggy_order.proofs.OrderLaws.{acyclic_from_order}
use Rattle.daggy_paths.proofs.SameStates.{same_graph, kept_acyclic}
use Rattle.daggy_paths.proofs.paths.Paths.sorted.Goals as goal

pub returns-in_default-clause-cyclic : goal.returns-in_default-clause-cyclic
returns-in_default-clause-cyclic g c acyclic =
    subst (λ o. IfNone o (IsAcyclic c.new-forward.result.graph → ⊥)) c.in_default.is c.in_ok-order.ensures.cyclic
    (kept_acyclic (same_graph c.new-forward.ensures) acyclic)

pub returns-clause-acyclic : goal.returns-clause-acyclic
returns-clause-acyclic g c =
    let ordered = subst (λ o. IfSome o (λ order. IsOrderOf c.new-forward.result.graph order)) c.in-Some.is
    c.in_ok-order.ensures.ordered in
    kept_acyclic (sym (same_graph c.new-forward.ensures)) (acyclic_from_order c.in-Some.order ordered)
