use Rattle.std.proofs.Common.{◌≡◌, ◌≢◌, ◌<◌, ◌+◌, ◌-◌, ◌∙◌, inl, inr, length, get_or, min, ap, arith, rules}
use Rattle.std.proofs.lemmas.Bool.{cases_lt}
use Rattle.daggy_schedule.proofs.Passing.{edge_exists, passed_closer, passed_low, passed_edge, passed_joined, ends_at}
use Rattle.daggy_schedule.proofs.Late.{lowers_none, lowers_one, all_lowered}
use Rattle.daggy_schedule.specs.Passes.{later_by}
use Rattle.daggy_schedule.proofs.schedule.late.latest_finish.Goals as goal

pub edges-init : goal.edges-init
edges-init g c = lowers_none c.args.lags.now (later_by c.args.starts.now c.args.slack.now) c.args.makespan c.first_edge-e.ensures

pub next_edge-e-requires : goal.next_edge-e-requires
next_edge-e-requires g c =
    let here : g.Ix.IndexType.number c.edges.e ≢ g.Ix.IndexType.greatest = λ h. c.edges-test.true cc in
    edge_exists c.invariant.ensures.well_formed c.edges.invariant.passing here

pub edges-smaller : goal.edges-smaller
edges-smaller g c =
    let here : g.Ix.IndexType.number c.edges.e ≢ g.Ix.IndexType.greatest = λ h. c.edges-test.true cc in
    passed_closer c.invariant.ensures.well_formed c.edges.invariant.passing here
    (g.Ix.IndexType.number c.next_edge-e.result) c.next_edge-e.ensures

pub edges-smaller-in-Some : goal.edges-smaller-in-Some
edges-smaller-in-Some g c =
    let here : g.Ix.IndexType.number c.edges.e ≢ g.Ix.IndexType.greatest = λ h. c.edges-test.true cc in
    passed_closer c.invariant.ensures.well_formed c.edges.invariant.passing here
    (g.Ix.IndexType.number c.next_edge-e.result) c.next_edge-e.ensures

pub bounds-starts-i : goal.bounds-starts-i
bounds-starts-i g c =
    let here : g.Ix.IndexType.number c.edges.e ≢ g.Ix.IndexType.greatest = λ h. c.edges-test.true cc in
    let w = c.invariant.ensures.well_formed in
    let s = c.edges.invariant.passing in
    let ends = ends_at c.in-Some.ensures c.index-i.ensures.value in
    let low = passed_low w s here ends in
    omega (arith, low, c.requires.starts)

pub offset_bounds-starts-i : goal.offset_bounds-starts-i
offset_bounds-starts-i g c =
    let here : g.Ix.IndexType.number c.edges.e ≢ g.Ix.IndexType.greatest = λ h. c.edges-test.true cc in
    let w = c.invariant.ensures.well_formed in
    let s = c.edges.invariant.passing in
    let ends = ends_at c.in-Some.ensures c.index-i.ensures.value in
    let low = passed_low w s here ends in
    let h : c.index-i.result < length c.args.starts.now = omega (arith, low, c.requires.starts) in
    search rules

pub overflow_add-starts : goal.overflow_add-starts
overflow_add-starts g c =
    let here : g.Ix.IndexType.number c.edges.e ≢ g.Ix.IndexType.greatest = λ h. c.edges-test.true cc in
    let w = c.invariant.ensures.well_formed in
    let s = c.edges.invariant.passing in
    let ends = ends_at c.in-Some.ensures c.index-i.ensures.value in
    omega (arith, c.requires.low _ (passed_joined w s here ends), c.ranges.makespan.fits)

pub overflow_sub-starts : goal.overflow_sub-starts
overflow_sub-starts g c =
    let here : g.Ix.IndexType.number c.edges.e ≢ g.Ix.IndexType.greatest = λ h. c.edges-test.true cc in
    let w = c.invariant.ensures.well_formed in
    let s = c.edges.invariant.passing in
    let ends = ends_at c.in-Some.ensures c.index-i.ensures.value in
    let edge = passed_edge w s here ends in
    omega (arith, c.requires.lags _ (g.Ix.IndexType.number c.edges.e, edge.0, edge.1), c.lag_at-lag.ensures)

pub edges-preserved-in-Some : goal.edges-preserved-in-Some
edges-preserved-in-Some g c =
    let here : g.Ix.IndexType.number c.edges.e ≢ g.Ix.IndexType.greatest = λ h. c.edges-test.true cc in
    let w = c.invariant.ensures.well_formed in
    let s = c.edges.invariant in
    let ends = ends_at c.in-Some.ensures c.index-i.ensures.value in
    let edge = passed_edge w s.passing here ends in
    let child = later_by c.args.starts.now c.args.slack.now c.index-i.result in
    let low = c.requires.lags _ (g.Ix.IndexType.number c.edges.e, edge.0, edge.1) in
    let lag = c.lag_at-lag.result in
    let least = c.min-latest.result in
    let is : least ≡ min c.edges.latest (child - lag) =
    c.min-latest.ensures
    ∙ ap (λ z. min c.edges.latest (get_or c.args.starts.now c.index-i.result 0 + z - lag)) c.time_at.ensures in
    lowers_one w s here ends (g.Ix.IndexType.number c.next_edge-e.result) c.next_edge-e.ensures least
    (omega (arith, is)) (omega (arith, is, low, c.lag_at-lag.ensures))
    (elim (cases_lt c.edges.latest (child - lag)) [
      | inl less ↦ inl (omega (arith, is, less))
      | inr enough ↦ inr (omega (arith, is, enough, low, c.lag_at-lag.ensures))
    ])

pub returns : goal.returns
returns g c =
    let at_end : g.Ix.IndexType.number c.edges.e ≡ g.Ix.IndexType.greatest = cc in
    all_lowered c.invariant.ensures.well_formed c.edges.invariant at_end
