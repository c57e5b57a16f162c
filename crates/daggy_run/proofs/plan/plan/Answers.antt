use Rattle.std.proofs.Common.{ap, arith}
use Rattle.daggy_run.specs.Plans.{stages_of}
use Rattle.daggy_run.proofs.StagedNodes.{stages_long}
use Rattle.daggy_run.proofs.PlanByLevels.{last_some, last_within, planned}
use Rattle.daggy_run.proofs.plan.plan.Goals as goal

pub chain_back-requires-clause-full : goal.chain_back-requires-clause-full
chain_back-requires-clause-full g c = λ k last.
    last_some g.Ix.IndexType.greatest (g.D.GuardedDag.graph c.args.dag.now) c.levels_of.ensures.dag.well_formed
    c.in_ok-found.ensures.found c.as_slice.ensures.value
    (ap (stages_of g.Ix.IndexType.number) c.as_slice-2.ensures.value) c.in_ok-stages.ensures k
    (omega (arith, last, stages_long g.Ix.IndexType.number c.as_slice-2.result.now))

pub chain_back-requires-clause-first : goal.chain_back-requires-clause-first
chain_back-requires-clause-first g c = λ k last.
    let low =
    last_within g.Ix.IndexType.greatest (g.D.GuardedDag.graph c.args.dag.now) c.levels_of.ensures.dag.well_formed
    c.in_ok-found.ensures.found c.as_slice.ensures.value
    (ap (stages_of g.Ix.IndexType.number) c.as_slice-2.ensures.value) c.in_ok-stages.ensures k
    (omega (arith, last, stages_long g.Ix.IndexType.number c.as_slice-2.result.now)) in
    omega (arith, low, c.as_slice-3.ensures.len, c.in_ok-found.ensures.parents)

pub returns : goal.returns
returns g c =
    let p =
    planned g.Ix.IndexType.greatest (g.D.GuardedDag.graph c.args.dag.now) c.levels_of.ensures.dag.well_formed
    c.in_ok-found.ensures.found c.as_slice.ensures.value
    (ap (stages_of g.Ix.IndexType.number) c.as_slice-2.ensures.value) c.in_ok-stages.ensures
    c.as_slice-3.ensures.value c.in_ok-chain.ensures in
    record { plan = p.plan; by_levels = p.levels; chain = p.path; shortest = p.shortest }
