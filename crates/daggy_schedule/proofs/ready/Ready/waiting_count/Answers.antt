use Rattle.std.proofs.Common.{sym, ap, subst, arith}
use Rattle.daggy_schedule.specs.Work.{Work, IsUnderWay, waiting_count}
use Rattle.daggy_schedule.proofs.Tallies.{all_counted}
use Rattle.daggy_schedule.proofs.ready.Ready.waiting_count.Goals.{After-node_count}
use Rattle.daggy_schedule.proofs.ready.Ready.waiting_count.Goals as goal

pub overflow_sub-result : goal.overflow_sub-result
overflow_sub-result g c =
    let under = subst (λ (z : Work). IsUnderWay c.args.dag.now.graph z) (sym c.self.view_is) c.requires in
    omega (arith, all_counted c.self.invariant under, c.node_count.ensures.value)

pub returns : goal.returns
returns g c =
    let under = subst (λ (z : Work). IsUnderWay c.args.dag.now.graph z) (sym c.self.view_is) c.requires in
    omega (
      arith,
      all_counted c.self.invariant under,
      c.node_count.ensures.value,
      ap (waiting_count c.args.dag.now.graph) c.self.view_is,
    )
