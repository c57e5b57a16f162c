use Rattle.std.proofs.Common.{◌≡◌, ◌∙◌, sym, ap, subst, vec_len}
use Rattle.std.proofs.lemmas.Result.{IfOk-weaker}
use Rattle.daggy_schedule.specs.Times.{AreDurations, IsZeroElsewhere}
use Rattle.daggy_schedule.specs.Lags.{AreLags, IsZeroWithoutEdge}
use Rattle.daggy_schedule.proofs.NoLags.{if_both}
use Rattle.daggy_schedule.proofs.schedule.Schedule.with_lags.Goals as goal

pub returns-clause-sized : goal.returns-clause-sized
returns-clause-sized g c =
    if_both c.timed.result _ _ _ (λ s same h. (
      ap vec_len same.0 ∙ c.in_ok-durations.ensures.sized,
      ap vec_len same.1 ∙ c.in_ok-lags.ensures.sized,
      h.0,
      h.1,
      h.2,
    ))
    (if_both c.timed.result _ _ (λ s. (s.durations ≡ c.in_ok-durations.durations) × (s.lags ≡ c.in_ok-lags.lags))
    (λ s p q. (p, q)) c.timed.ensures.durations c.timed.ensures.lags)
    c.timed.ensures.sized

pub returns-clause-durations : goal.returns-clause-durations
returns-clause-durations g c =
    IfOk-weaker c.timed.result _ _
    (λ s same. subst
    (λ z. AreDurations g.Ix.IndexType.of (goal.F-post g) c.args.durations c.args.dag.now.graph z.items) (sym same)
    c.in_ok-durations.ensures.called)
    c.timed.ensures.durations

pub returns-clause-lags : goal.returns-clause-lags
returns-clause-lags g c =
    IfOk-weaker c.timed.result _ _
    (λ s same. subst (λ z. AreLags g.Ix.IndexType.of (goal.L-post g) c.args.lags c.args.dag.now.graph z.items) (sym same)
    c.in_ok-lags.ensures.called)
    c.timed.ensures.lags

pub returns-clause-durations_elsewhere : goal.returns-clause-durations_elsewhere
returns-clause-durations_elsewhere g c =
    IfOk-weaker c.timed.result _ _
    (λ s same. subst (λ z. IsZeroElsewhere c.args.dag.now.graph z.items) (sym same) c.in_ok-durations.ensures.elsewhere)
    c.timed.ensures.durations

pub returns-clause-lags_elsewhere : goal.returns-clause-lags_elsewhere
returns-clause-lags_elsewhere g c =
    IfOk-weaker c.timed.result _ _
    (λ s same. subst (λ z. IsZeroWithoutEdge c.args.dag.now.graph z.items) (sym same) c.in_ok-lags.ensures.elsewhere)
    c.timed.ensures.lags

pub returns-clause-overflow : goal.returns-clause-overflow
returns-clause-overflow g c is = (
  c.in_ok-durations.durations.items,
  c.in_ok-lags.lags.items,
  c.in_ok-durations.ensures.called,
  c.in_ok-lags.ensures.called,
  c.timed.ensures.overflow is,
)
