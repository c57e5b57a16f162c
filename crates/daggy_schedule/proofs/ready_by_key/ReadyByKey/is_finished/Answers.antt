use Rattle.std.proofs.Common.{◌↔◌, IsTrue, subst}
use Rattle.daggy_schedule.specs.Work.{IsIdle}
use Rattle.daggy_schedule.specs.ByKey.{KeyedWork, work_of}
use Rattle.daggy_schedule.proofs.ByKeys.{idle_shown, idle_inner}
use Rattle.daggy_schedule.proofs.ready_by_key.ReadyByKey.is_finished.Goals as goal

pub returns : goal.returns
returns g c =
    let k = c.self.invariant in
    let P : KeyedWork _ → Type 0 = λ z. IsTrue c.is_finished.result ↔ IsIdle (work_of z) in
    subst P c.self.view_is (
      λ h. idle_shown k (c.is_finished.ensures.0 h),
      λ h. c.is_finished.ensures.1 (idle_inner k h),
    )
