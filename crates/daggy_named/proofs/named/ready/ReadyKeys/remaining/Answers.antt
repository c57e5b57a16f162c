use Rattle.std.proofs.Common.{ap, arith}
use Rattle.daggy_schedule.specs.Work.{waiting_count}
use Rattle.daggy_named.specs.Working.{remaining_of}
use Rattle.daggy_named.proofs.WorkCounts.{remaining_low, remaining_parts}
use Rattle.daggy_named.proofs.named.ready.ReadyKeys.remaining.Goals as goal

pub overflow_add-result : goal.overflow_add-result
overflow_add-result g c =
    let graph = c.self.inside.named.now.graph in
    let work = c.self.inside.ready.work in
    omega (
      arith,
      c.ready_count.ensures,
      c.waiting_count.ensures,
      ap (λ z. waiting_count z work) c.dag.ensures,
      remaining_parts graph c.self.invariant.under_way,
      remaining_low graph work,
      c.node_count-count.ensures.value,
      c.node_count-count.type_inv,
    )

pub returns : goal.returns
returns g c =
    let graph = c.self.inside.named.now.graph in
    let work = c.self.inside.ready.work in
    omega (
      arith,
      c.ready_count.ensures,
      c.waiting_count.ensures,
      ap (λ z. waiting_count z work) c.dag.ensures,
      remaining_parts graph c.self.invariant.under_way,
      ap (λ s. remaining_of s.named.graph s.queue.work) c.self.view_is,
    )
