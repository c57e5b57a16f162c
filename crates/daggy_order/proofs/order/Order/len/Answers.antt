use Rattle.std.proofs.Common.{rules, ◌<◌, ◌^◌, ◌+◌, ℕ, List, ◌++◌, length, sym, ap, arith}
use Rattle.std.specs.List.{range_with_len}
use Rattle.daggy_base.proofs.Lists.{unique_from_distinct, distinct_from_unique}
use Rattle.daggy_order.proofs.Tails.{few_written, tail_length, tail_once}
use Rattle.daggy_order.proofs.order.Order.len.Goals as goal

pub overflow_add-result : goal.overflow_add-result
overflow_add-result g c =
    let few = few_written c.self.invariant (unique_from_distinct c.self.inside.list.nodes c.len.ensures.distinct) in
    let low : c.len.result + c.self.inside.tail.count < 2 ^ 64 =
    omega (arith, few, c.len.ensures.value, c.self.invariant.real, g.met.Ix.IndexType.fits) in
    search rules

pub returns-clause-value : goal.returns-clause-value
returns-clause-value g c =
    omega (arith, c.len.ensures.value, tail_length c.self.invariant, ap (λ (z : List ℕ). length z) c.self.view_is)

pub returns-clause-distinct : goal.returns-clause-distinct
returns-clause-distinct g c =
    let once = unique_from_distinct c.self.inside.list.nodes c.len.ensures.distinct in
    rw (sym c.self.view_is) (distinct_from_unique
    (c.self.inside.list.nodes ++ range_with_len c.self.inside.tail.from c.self.inside.tail.count)
    (tail_once c.self.invariant once))
