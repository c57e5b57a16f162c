use Rattle.std.proofs.Common.{ℕ, List, get_or, map, sym, subst, arith}
use Rattle.daggy_schedule.specs.Lags.{AreEarliestWithLags, AreLatestWithLags}
use Rattle.daggy_schedule.specs.Passes.{AreNoted, later_by}
use Rattle.daggy_schedule.proofs.Whole.{whole_makespan, whole_critical, whole_traced, whole_fits}
use Rattle.daggy_schedule.proofs.schedule.timed.Given.{Over}
use Rattle.daggy_schedule.proofs.schedule.timed.Goals.{In_ok-early, In_ok-slack}
use Rattle.daggy_schedule.proofs.schedule.timed.Goals as goal

-- what the pass along the order noted, of the durations and the lags
noted : (g : Over) (c : In_ok-early g)
    → AreNoted g.Ix.IndexType.greatest c.args.dag.now.graph c.args.durations.items c.args.lags.items
    c.in_ok-early.early.starts.items c.in_ok-early.early.parents.items c.in_ok-early.early.finishes.items
noted g c =
    let early = c.in_ok-early.early in
    let P : List ℕ → List ℕ → Type 0 = λ d l. AreNoted g.Ix.IndexType.greatest c.args.dag.now.graph d l early.starts.items
    early.parents.items early.finishes.items in
    subst (λ d. P d c.args.lags.items) c.as_slice.ensures.value
    (subst (P c.as_slice.result.now) c.as_slice-2.ensures.value c.in_ok-early.ensures.noted)

earliest : (g : Over) (c : In_ok-early g)
    → AreEarliestWithLags c.args.dag.now.graph c.args.durations.items c.args.lags.items
    (λ n. get_or c.in_ok-early.early.starts.items n 0)
earliest g c =
    let P : List ℕ → List ℕ → Type 0 = λ d l. AreEarliestWithLags c.args.dag.now.graph d l
    (λ n. get_or c.in_ok-early.early.starts.items n 0) in
    subst (λ d. P d c.args.lags.items) c.as_slice.ensures.value
    (subst (P c.as_slice.result.now) c.as_slice-2.ensures.value c.in_ok-early.ensures.earliest)

pub returns-clause-finishes : goal.returns-clause-finishes
returns-clause-finishes g c n h = sym ((noted g (goal.at.returns-clause-finishes g c).In_ok-early).takes n h)

pub returns-clause-starts : goal.returns-clause-starts
returns-clause-starts g c = earliest g (goal.at.returns-clause-starts g c).In_ok-early

pub returns-clause-makespan : goal.returns-clause-makespan
returns-clause-makespan g c =
    let at = (goal.at.returns-clause-makespan g c).In_ok-early in
    whole_makespan (noted g at) (earliest g at) c.in_ok-early.ensures.last

-- the latest starts, of the durations and the lags
latest : (g : Over) (c : In_ok-slack g)
    → AreLatestWithLags c.args.dag.now.graph c.args.durations.items c.args.lags.items
    (later_by c.in_ok-early.early.starts.items c.in_ok-slack.slack.items) c.in_ok-early.early.makespan
latest g c =
    let early = c.in_ok-early.early in
    let P : List ℕ → List ℕ → Type 0 = λ d l. AreLatestWithLags c.args.dag.now.graph d l
    (later_by early.starts.items c.in_ok-slack.slack.items) early.makespan in
    subst (λ d. P d c.args.lags.items) c.as_slice-4.ensures.value
    (subst (P c.as_slice-4.result.now) c.as_slice-5.ensures.value c.in_ok-slack.ensures.latest)

pub returns-clause-slack : goal.returns-clause-slack
returns-clause-slack g c = latest g (goal.at.returns-clause-slack g c).In_ok-slack

pub returns-clause-critical : goal.returns-clause-critical
returns-clause-critical g c =
    let at = (goal.at.returns-clause-critical g c).In_ok-early in
    let early = c.in_ok-early.early in
    let d = c.args.durations.items in
    let lags = c.args.lags.items in
    whole_critical (noted g at) (earliest g at) c.in_ok-early.ensures.last
    (map g.Ix.IndexType.number c.in_ok-critical.critical.items) c.in_ok-critical.ensures.none
    (λ h. c.in_ok-critical.ensures.sum d lags early.starts.items early.finishes.items h
    (rw c.as_slice-7.ensures.value (noted g at)))

pub returns-clause-traced_back : goal.returns-clause-traced_back
returns-clause-traced_back g c =
    let at = (goal.at.returns-clause-traced_back g c).In_ok-early in
    let early = c.in_ok-early.early in
    let d = c.args.durations.items in
    let lags = c.args.lags.items in
    whole_traced (noted g at) (earliest g at) c.in_ok-early.ensures.last
    (map g.Ix.IndexType.number c.in_ok-critical.critical.items) c.in_ok-critical.ensures.none
    (λ h. c.in_ok-critical.ensures.traced_back d lags early.starts.items early.finishes.items h
    (rw c.as_slice-7.ensures.value (noted g at)))

pub returns-clause-fits : goal.returns-clause-fits
returns-clause-fits g c =
    let at = (goal.at.returns-clause-fits g c).In_ok-early in
    whole_fits (noted g at) (earliest g at) c.in_ok-early.ensures.last (omega arith)

pub returns-clause-schedule : goal.returns-clause-schedule
returns-clause-schedule g c =
    let at = (goal.at.returns-clause-schedule g c).In_ok-early in
    let early = c.in_ok-early.early in
    let sized = c.in_ok-early.ensures.sized in
    record {
      all_start = omega (arith, sized.0, early.starts.ok.0);
      all_finish = omega (arith, sized.1, early.finishes.ok.0);
      earliest = earliest g at;
      takes = λ n h. sym ((noted g at).takes n h);
      latest = latest g (goal.at.returns-clause-schedule g c).In_ok-slack;
      ends = whole_makespan (noted g at) (earliest g at) c.in_ok-early.ensures.last;
    }
