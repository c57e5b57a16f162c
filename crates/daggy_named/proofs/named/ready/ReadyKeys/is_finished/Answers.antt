use Rattle.std.proofs.Common.{◌↔◌, ◌∙◌, IsTrue, nat_eq, subst, sym}
use Rattle.std.proofs.lemmas.Bool.{eq-eqb, eqb-true}
use Rattle.daggy_schedule.specs.Work.{IsIdle}
use Rattle.daggy_named.proofs.WorkCounts.{over_idle, idle_none}
use Rattle.daggy_named.proofs.named.ready.ReadyKeys.is_finished.Goals as goal

pub returns-then-is_over-clause-value : goal.returns-then-is_over-clause-value
returns-then-is_over-clause-value g c =
    let queue = c.self.inside.ready in
    let count = c.failed_count.result in
    subst (λ s. IsTrue (nat_eq count 0) ↔ IsIdle s.queue.work) c.self.view_is (
      λ h. over_idle queue (c.is_over.ensures.0 c.if-is_over.true) (sym c.failed_count.ensures ∙ eqb-true count 0 h),
      λ idle. eq-eqb count 0 (c.failed_count.ensures ∙ idle_none queue c.self.invariant idle),
    )
