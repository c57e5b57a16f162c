use Rattle.std.proofs.Common.{◌≡◌, ◌<◌, ◌∙◌, List, ℕ, Err, get_or, sym, ap, subst, arith}
use Rattle.std.specs.Int.NonZero.{non_zero_usize_get}
use Rattle.std.specs.Result.{IsErrAnd}
use Rattle.daggy_schedule.specs.declared.schedule.ScheduleError.TheVariants.{Overflow}
use Rattle.daggy_schedule.specs.Times.{AreDurations, IsZeroElsewhere}
use Rattle.daggy_schedule.specs.Assignments.{AreKeptBusy, IsNearBest}
use Rattle.daggy_schedule.proofs.Load.{path_too_long}
use Rattle.daggy_schedule.proofs.Elsewhere.{ends_by}
use Rattle.daggy_schedule.proofs.on_workers.schedule_on.Goals as goal

pub returns-in_err-plan-clause-overflow : goal.returns-in_err-plan-clause-overflow
returns-in_err-plan-clause-overflow g c is =
    let error = c.in_err-plan.field-0.0 in
    let E : _ → Type 0 = λ z. IsErrAnd z (λ e. e ≡ error) in
    let same : Overflow ≡ error = subst E is c.from_residual.ensures.1 in
    let h = c.in_err-plan.ensures.overflow (ap Err (sym same)) in
    let some : 0 < non_zero_usize_get c.args.workers = omega (arith, c.get-count.ensures) in
    (h.0, h.1, path_too_long c.args.dag.now.graph h.0 (non_zero_usize_get c.args.workers) some h.2)

pub returns-clause-durations : goal.returns-clause-durations
returns-clause-durations g c =
    let P : _ → Type 0 = λ z. AreDurations g.Ix.IndexType.of (goal.F-post g) c.args.durations c.args.dag.now.graph z.items in
    subst P (sym c.into_assignment.ensures.durations) c.in_ok-plan.ensures.durations

pub returns-clause-durations_elsewhere : goal.returns-clause-durations_elsewhere
returns-clause-durations_elsewhere g c =
    let P : _ → Type 0 = λ z. IsZeroElsewhere c.args.dag.now.graph z.items in
    subst P (sym c.into_assignment.ensures.durations) c.in_ok-plan.ensures.durations_elsewhere

pub returns-clause-starts_elsewhere : goal.returns-clause-starts_elsewhere
returns-clause-starts_elsewhere g c =
    let P : List ℕ → Type 0 = λ z. IsZeroElsewhere c.args.dag.now.graph z in
    subst P (sym c.into_assignment.ensures.starts) c.in_ok-done.ensures.elsewhere.0

pub returns-clause-workers_elsewhere : goal.returns-clause-workers_elsewhere
returns-clause-workers_elsewhere g c =
    let P : List ℕ → Type 0 = λ z. IsZeroElsewhere c.args.dag.now.graph z in
    subst P (sym c.into_assignment.ensures.workers) c.in_ok-done.ensures.elsewhere.1

pub returns-clause-busy : goal.returns-clause-busy
returns-clause-busy g c =
    let graph = c.args.dag.now.graph in
    let made = c.into_assignment.result in
    let done = c.in_ok-done.done in
    let D : _ → Type 0 = λ z. AreKeptBusy graph z.items made.starts.items made.workers.items (non_zero_usize_get c.args.workers) in
    let S : List ℕ → Type 0 = λ z.
    AreKeptBusy graph c.in_ok-plan.plan.durations.items z made.workers.items (non_zero_usize_get c.args.workers) in
    let W : List ℕ → Type 0 = λ z.
    AreKeptBusy graph c.in_ok-plan.plan.durations.items done.starts z (non_zero_usize_get c.args.workers) in
    let C : ℕ → Type 0 = λ z. AreKeptBusy graph c.in_ok-plan.plan.durations.items done.starts done.workers z in
    subst D (sym c.into_assignment.ensures.durations)
    (subst S (sym c.into_assignment.ensures.starts)
    (subst W (sym c.into_assignment.ensures.workers) (subst C c.get-count.ensures.value c.in_ok-done.ensures.busy)))

pub returns-clause-near_best : goal.returns-clause-near_best
returns-clause-near_best g c =
    let graph = c.args.dag.now.graph in
    let made = c.into_assignment.result in
    let count = non_zero_usize_get c.args.workers in
    let D : _ → Type 0 = λ z. IsNearBest graph z.items count made.makespan in
    let M : ℕ → Type 0 = λ z. IsNearBest graph c.in_ok-plan.plan.durations.items count z in
    let C : ℕ → Type 0 = λ z. IsNearBest graph c.in_ok-plan.plan.durations.items z c.in_ok-done.done.now in
    subst D (sym c.into_assignment.ensures.durations)
    (subst M (sym c.into_assignment.ensures.makespan) (subst C c.get-count.ensures.value c.in_ok-done.ensures.near_best))

-- each node has finished by the time at which all are done
pub finishes-requires-clause-ended : goal.finishes-requires-clause-ended
finishes-requires-clause-ended g c i =
    rw c.as_slice.ensures.value
    (ends_by c.args.dag.now.graph c.in_ok-plan.plan.durations.items c.in_ok-done.done.starts
    c.in_ok-done.ensures.assigned.met c.in_ok-done.ensures.elsewhere.0 c.in_ok-plan.ensures.durations_elsewhere i)

pub returns-clause-finishes : goal.returns-clause-finishes
returns-clause-finishes g c n _ =
    omega (
      arith,
      ap (λ z. get_or z.items n 0) c.into_assignment.ensures.finishes,
      c.in_ok-finishes.ensures.finishes n,
      ap (λ z. get_or z n 0) c.as_slice.ensures.value,
      ap (λ z. get_or z n 0) c.into_assignment.ensures.starts,
      ap (λ z. get_or z.items n 0) c.into_assignment.ensures.durations,
    )

pub returns-clause-finishes_elsewhere : goal.returns-clause-finishes_elsewhere
returns-clause-finishes_elsewhere g c n none =
    ap (λ z. get_or z.items n 0) c.into_assignment.ensures.finishes
    ∙ omega (
      arith,
      c.in_ok-finishes.ensures.finishes n,
      ap (λ z. get_or z n 0) c.as_slice.ensures.value,
      c.in_ok-done.ensures.elsewhere.0 n none,
      c.in_ok-plan.ensures.durations_elsewhere n none,
    )
