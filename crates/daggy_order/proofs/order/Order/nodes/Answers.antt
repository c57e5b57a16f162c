use Rattle.std.proofs.Common.{ℕ, List, ◌++◌, length, ap, arith}
use Rattle.std.specs.List.{range_with_len}
use Rattle.daggy_base.proofs.Lists.{unique_from_distinct}
use Rattle.daggy_order.proofs.OrderSteps.{at_all, nodes_all}
use Rattle.daggy_order.proofs.Tails.{few_written, tail_length}
use Rattle.daggy_order.proofs.order.Order.nodes.Goals as goal

pub invariant_of-result : goal.invariant_of-result
invariant_of-result g c =
    let nodes : List ℕ = c.self.inside.list.nodes in
    let few = few_written c.self.invariant (unique_from_distinct nodes c.len.ensures.distinct) in
    record {
      written =
          at_all g.Ix.IndexType.greatest nodes c.len.result c.first.result c.len.ensures.value c.first.ensures
          c.last.result c.len.ensures.distinct c.last.ensures;
      real = c.self.invariant.real;
      few = omega (arith, few, c.len.ensures.value);
    }

pub returns-clause-fits : goal.returns-clause-fits
returns-clause-fits g c =
    let nodes : List ℕ = c.self.inside.list.nodes in
    let few = few_written c.self.invariant (unique_from_distinct nodes c.len.ensures.distinct) in
    let whole =
    ap (λ (z : List ℕ). length (z ++ range_with_len c.self.inside.tail.from c.self.inside.tail.count))
    (nodes_all g.Ix.IndexType.greatest nodes c.len.result c.first.result c.len.ensures.value c.first.ensures) in
    omega (arith, whole, tail_length c.self.invariant, few, c.self.invariant.real, g.met.Ix.IndexType.fits)
