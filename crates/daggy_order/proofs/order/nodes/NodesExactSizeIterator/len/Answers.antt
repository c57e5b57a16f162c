use Rattle.std.proofs.Common.{ℕ, List, length, ap, arith}
use Rattle.std.proofs.lemmas.List.{length-append}
use Rattle.std.proofs.lemmas.List.FromFn.{length-range_with_len}
use Rattle.std.specs.List.{range_with_len}
use Rattle.daggy_order.specs.Links.{nodes_at}
use Rattle.daggy_order.proofs.OrderSteps.{length_at}
use Rattle.daggy_order.proofs.order.nodes.NodesExactSizeIterator.len.Goals as goal

pub returns-clause-value : goal.returns-clause-value
returns-clause-value g c =
    let ahead : List ℕ = range_with_len c.self.inside.from c.self.inside.count in
    let rest : List ℕ = nodes_at c.self.inside.left c.self.inside.at c.self.inside.list.now.nodes in
    omega (
      arith,
      length-append rest ahead,
      length-range_with_len c.self.inside.from c.self.inside.count,
      length_at c.self.invariant.written,
      ap (λ (z : List ℕ). length z) c.self.view_is,
    )
