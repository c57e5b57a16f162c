use Rattle.std.proofs.Common.{refl, inr}
use Rattle.daggy_dag.proofs.acyclic.Acyclic.try_set_parents.Goals as goal

pub returns-in-Err-clause-cycle : goal.returns-in-Err-clause-cycle
returns-in-Err-clause-cycle g c node parents = (
  λ h. c.in-Err.ensures.cycle.0 cc,
  λ r.
      let is = c.in-Err.ensures.cycle.1 r in
      cc,
)

pub returns-in-Err-clause-refusal : goal.returns-in-Err-clause-refusal
returns-in-Err-clause-refusal g c = inr (c.in-Err.error, refl, c.in-Err.ensures.refusal)
