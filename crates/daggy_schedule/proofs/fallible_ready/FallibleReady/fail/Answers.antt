use Rattle.std.proofs.Common.{◌≡◌, ◌<◌, ◌↔◌, ◌⊎◌, ℕ, true, length, set, vec_len, sym, subst, arith, rules}
use Rattle.daggy_schedule.specs.Work.{IsSet}
use Rattle.daggy_schedule.specs.Fallible.{FallibleWork, IsInProgress, IsUnderWayWithFailures}
use Rattle.daggy_schedule.proofs.Keeping.{set_more}
use Rattle.daggy_schedule.proofs.Tallies.{failures_few, tallied_one}
use Rattle.daggy_schedule.proofs.fallible_ready.FallibleReady.fail.Given.{Over}
use Rattle.daggy_schedule.proofs.fallible_ready.FallibleReady.fail.Goals.{After-index}
use Rattle.daggy_schedule.proofs.fallible_ready.FallibleReady.fail.Goals as goal

abbrev kept : (g : Over) (c : After-index g) → FallibleWork
kept g c = record { work = c.self.inside.inner; failed = c.self.inside.failed.items }

-- the node is in progress
running : (g : Over) (c : After-index g) → IsInProgress (kept g c) c.index.result
running g c =
    subst (λ (z : ℕ). IsInProgress (kept g c) z) (sym c.index.ensures.value)
    (subst (λ (z : FallibleWork). IsInProgress z (g.Ix.IndexType.number c.args.n)) (sym c.self.view_is) c.requires.out)

-- and has a flag
low : (g : Over) (c : After-index g) → c.index.result < length c.self.inside.failed.items
low g c =
    let u = subst (λ (z : FallibleWork). IsUnderWayWithFailures c.args.dag.now.graph z) (sym c.self.view_is) c.requires.under_way in
    u.flagged c.index.result (u.under_way.out c.index.result (running g c).0.0).0

pub overflow_add-self : goal.overflow_add-self
overflow_add-self g c =
    let at = (goal.at.overflow_add-self g c).After-index in
    let size : vec_len c.self.inside.failed ≡ length c.self.inside.failed.items = search rules in
    omega (
      arith,
      failures_few c.self.invariant c.index.result (running g at).0 (running g at).1 (low g at),
      size,
    )

pub invariant_of-self : goal.invariant_of-self
invariant_of-self g c =
    let at = (goal.at.invariant_of-self g c).After-index in
    tallied_one c.self.invariant c.index.result (running g at).0 (running g at).1 (low g at)

pub returns-clause-failed : goal.returns-clause-failed
returns-clause-failed g c =
    let failed = c.self.inside.failed.items in
    let more = set_more failed c.index.result (low g (goal.at.returns-clause-failed g c).After-index) in
    subst (λ (z : FallibleWork). (m : ℕ) → IsSet (set failed c.index.result true) m
    ↔ (IsSet z.failed m ⊎ (m ≡ g.Ix.IndexType.number c.args.n))) c.self.view_is
    (subst (λ (z : ℕ). (m : ℕ) → IsSet (set failed c.index.result true) m ↔ (IsSet failed m ⊎ (m ≡ z))) c.index.ensures.value more)
