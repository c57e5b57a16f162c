use Rattle.daggy_order.proofs.Tails.{tailed_same, tailed_roomy}
use Rattle.daggy_order.proofs.order.Order.reserve.Goals as goal

pub invariant_of-self : goal.invariant_of-self
invariant_of-self g c =
    tailed_same c.self.invariant c.reserve.new.self.nodes c.reserve.new.self.capacity c.reserve.ensures.same
    c.reserve.ensures.larger

pub invariant_of-self-2 : goal.invariant_of-self-2
invariant_of-self-2 g c =
    tailed_roomy c.self.invariant c.reserve.new.self.nodes c.reserve.new.self.capacity c.in_ok-self-inside.field-0
    c.reserve.ensures.same c.in_ok-self-inside.ensures.capacity c.reserve.ensures.larger
