use Rattle.std.proofs.Common.{refl, inr}
use Rattle.daggy_computed.proofs.Refusals.{refused_of, refused_as}
use Rattle.daggy_computed.proofs.computed.Computed.try_set_parents.Goals as goal

pub returns-in-Err-clause-cycle : goal.returns-in-Err-clause-cycle
returns-in-Err-clause-cycle g c node parents = (
  λ h. c.in-Err.ensures.cycle.0 (refused_of h),
  λ r. refused_as (c.in-Err.ensures.cycle.1 r),
)

pub returns-in-Err-clause-full : goal.returns-in-Err-clause-full
returns-in-Err-clause-full g c node parents = (
  λ h. c.in-Err.ensures.full.0 (refused_of h),
  λ r. refused_as (c.in-Err.ensures.full.1 r),
)

pub returns-in-Err-clause-refusal : goal.returns-in-Err-clause-refusal
returns-in-Err-clause-refusal g c =
    let refusal = c.in-Err.ensures.refusal in (refusal.0, inr (c.in-Err.error, refl, refusal.1))
