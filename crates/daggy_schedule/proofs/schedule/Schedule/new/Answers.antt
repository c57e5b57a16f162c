use Rattle.std.proofs.Common.{◌≡◌, ◌∙◌, [], IfOk, get_or, sym, ap, subst, vec_len}
use Rattle.std.proofs.lemmas.Result.{IfOk-weaker}
use Rattle.daggy_schedule.specs.Times.{AreDurations, IsZeroElsewhere}
use Rattle.daggy_schedule.specs.Lags.{TakesTooLongWithLags}
use Rattle.daggy_schedule.proofs.NoLags.{if_both, earliest_without, latest_without, makespan_without, critical_without}
use Rattle.daggy_schedule.proofs.NoLags.{long_without, long_with_none, traced_without}
use Rattle.daggy_schedule.proofs.schedule.Schedule.new.Given.{Over}
use Rattle.daggy_schedule.proofs.schedule.Schedule.new.Goals.{After-timed}
use Rattle.daggy_schedule.proofs.schedule.Schedule.new.Goals as goal

-- the schedule has no lags
none : (g : Over) (c : After-timed g) → IfOk c.timed.result (λ s. s.lags.items ≡ [])
none g c = IfOk-weaker c.timed.result _ _ (λ s same. ap (λ z. z.items) same ∙ c.new-lags.ensures.items) c.timed.ensures.lags

pub returns-clause-lags : goal.returns-clause-lags
returns-clause-lags g c = none g (goal.at.returns-clause-lags g c).After-timed

pub returns-clause-sized : goal.returns-clause-sized
returns-clause-sized g c =
    if_both c.timed.result _ _ _ (λ s same h. (ap vec_len same ∙ c.in_ok-durations.ensures.sized, h.0, h.1, h.2))
    c.timed.ensures.durations c.timed.ensures.sized

pub returns-clause-durations : goal.returns-clause-durations
returns-clause-durations g c =
    IfOk-weaker c.timed.result _ _
    (λ s same. subst
    (λ z. AreDurations g.Ix.IndexType.of (goal.F-post g) c.args.durations c.args.dag.now.graph z.items) (sym same)
    c.in_ok-durations.ensures.called)
    c.timed.ensures.durations

pub returns-clause-durations_elsewhere : goal.returns-clause-durations_elsewhere
returns-clause-durations_elsewhere g c =
    IfOk-weaker c.timed.result _ _
    (λ s same. subst (λ z. IsZeroElsewhere c.args.dag.now.graph z.items) (sym same) c.in_ok-durations.ensures.elsewhere)
    c.timed.ensures.durations

pub returns-clause-starts : goal.returns-clause-starts
returns-clause-starts g c =
    if_both c.timed.result _ _ _
    (λ s none h. earliest_without c.args.dag.now.graph s.durations.items (rw none at h))
    (none g (goal.at.returns-clause-starts g c).After-timed) c.timed.ensures.starts

pub returns-clause-makespan : goal.returns-clause-makespan
returns-clause-makespan g c =
    if_both c.timed.result _ _ _
    (λ s none h. makespan_without c.args.dag.now.graph s.durations.items (rw none at h))
    (none g (goal.at.returns-clause-makespan g c).After-timed) c.timed.ensures.makespan

pub returns-clause-slack : goal.returns-clause-slack
returns-clause-slack g c =
    if_both c.timed.result _ _ _
    (λ s none h. latest_without c.args.dag.now.graph s.durations.items (rw none at h))
    (none g (goal.at.returns-clause-slack g c).After-timed) c.timed.ensures.slack

pub returns-clause-critical : goal.returns-clause-critical
returns-clause-critical g c =
    if_both c.timed.result _ _ _
    (λ s none h. critical_without c.args.dag.now.graph s.durations.items (rw none at h))
    (none g (goal.at.returns-clause-critical g c).After-timed) c.timed.ensures.critical

pub returns-clause-traced_back : goal.returns-clause-traced_back
returns-clause-traced_back g c =
    if_both c.timed.result _ _ _
    (λ s none h. traced_without c.args.dag.now.graph (λ n. get_or s.finishes.items n 0) (rw none at h))
    (none g (goal.at.returns-clause-traced_back g c).After-timed) c.timed.ensures.traced_back

pub returns-clause-fits : goal.returns-clause-fits
returns-clause-fits g c =
    let graph = c.args.dag.now.graph in
    if_both c.timed.result _ _ _
    (λ s none h long. h (subst (TakesTooLongWithLags graph s.durations.items) (sym none) (long_with_none graph _ long)))
    (none g (goal.at.returns-clause-fits g c).After-timed) c.timed.ensures.fits

pub returns-clause-overflow : goal.returns-clause-overflow
returns-clause-overflow g c is =
    let graph = c.args.dag.now.graph in
    let d = c.in_ok-durations.durations.items in
    let long = subst (TakesTooLongWithLags graph d) c.new-lags.ensures.items (c.timed.ensures.overflow is) in
    (d, c.in_ok-durations.ensures.called, long_without graph d long)
