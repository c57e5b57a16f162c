use Rattle.dagbench_engine.proofs.PlanText.{no_plan_told, plan_told}
use Rattle.dagbench_engine.proofs.plan.put_plan_of.Goals as goal

pub returns-in_default : goal.returns-in_default
returns-in_default g c = (no_plan_told _ _ _ _ c.put.ensures.0, c.put.ensures.1)

pub returns : goal.returns
returns g c =
    let put = rw (c.as_slice.ensures.value, c.as_slice-2.ensures.value) at c.put_plan.ensures in (
      plan_told _ _ _ c.in-Ok.plan.stages.items c.in-Ok.plan.chain.items _ (record {
        plan = c.in-Ok.ensures.plan;
        by_levels = c.in-Ok.ensures.by_levels;
        chain_is = c.in-Ok.ensures.chain;
        shortest = c.in-Ok.ensures.shortest;
      }) put.0,
      put.1,
    )
