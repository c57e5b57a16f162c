use Rattle.std.proofs.Common.{IfSome, sym, subst}
use Rattle.daggy_base.specs.Ordered.{IsOrderOf}
use Rattle.daggy_base.specs.Path.{IsAcyclic}
use Rattle.daggy_order.proofs.OrderLaws.{acyclic_from_order}
use Rattle.tests_order.proofs.Changes.{if_ok}
use Rattle.tests_order.proofs.tests.blocks.reduce_by_blocks.Goals as goal

pub redundant_edges-requires-clause-acyclic : goal.redundant_edges-requires-clause-acyclic
redundant_edges-requires-clause-acyclic g c =
    let found : IfSome c.made-3.result (λ order. IsOrderOf (g.S.EdgeSource.graph c.args.store.now) order) =
    if_ok (λ o. IfSome o (λ order. IsOrderOf (g.S.EdgeSource.graph c.args.store.now) order)) c.sorted.result
    c.made-3.result c.made-3.ensures c.sorted.ensures.ordered in
    subst (λ z. IsAcyclic z) (sym c.sorted.ensures.same)
    (acyclic_from_order c.in-Some.order (rw c.in-Some.is at found))
