use Rattle.std.proofs.Common.{subst}
use Rattle.daggy_base.specs.Ordered.{IsOrderOf}
use Rattle.daggy_named.proofs.NamedNodes.{have_keys, order_exists}
use Rattle.daggy_named.proofs.named.Named.topological_keys.Goals as goal

pub invariant_of-result : goal.invariant_of-result
invariant_of-result g c =
    have_keys c.args.self.now.keys c.args.self.now.graph c.node_count-count.ensures.named.exact _ (order_exists c.args.self.now.graph _
    (subst (λ z. IsOrderOf z.graph c.topological_order.result) c.self.view_is c.topological_order.ensures.ordered))
