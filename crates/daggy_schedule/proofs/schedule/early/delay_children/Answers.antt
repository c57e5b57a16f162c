use Rattle.std.proofs.Common.{◌≡◌, ◌≢◌, ◌<◌, length, arith}
use Rattle.daggy_schedule.proofs.Passing.{edge_exists, passed_closer, passed_low, ends_at}
use Rattle.daggy_schedule.proofs.Delays.{delays_none, delays_one, all_delayed, too_long}
use Rattle.daggy_schedule.proofs.schedule.early.delay_children.Goals as goal

pub edges-init : goal.edges-init
edges-init g c =
    delays_none g.Ix.IndexType.greatest (g.S.EdgeSource.graph c.args.store.now) (g.Ix.IndexType.number c.args.n)
    c.args.finish c.args.lags.now c.args.starts.now.items c.args.parents.now.items c.first_edge-e.ensures

pub next_edge-e-requires : goal.next_edge-e-requires
next_edge-e-requires g c =
    let here : g.Ix.IndexType.number c.edges.e ≢ g.Ix.IndexType.greatest = λ h. c.edges-test.true cc in
    edge_exists c.invariant.ensures.well_formed c.edges.invariant.passing here

pub delay-requires-clause-starts : goal.delay-requires-clause-starts
delay-requires-clause-starts g c =
    let here : g.Ix.IndexType.number c.edges.e ≢ g.Ix.IndexType.greatest = λ h. c.edges-test.true cc in
    let low = passed_low c.invariant.ensures.well_formed c.edges.invariant.passing here
    (ends_at c.in-Some.ensures c.index-in-Some.ensures.value) in
    omega (arith, low, c.requires.starts, c.edges.invariant.starts_sized, c.args.starts.now.ok.0, c.edges.starts.ok.0)

pub delay-requires-clause-parents : goal.delay-requires-clause-parents
delay-requires-clause-parents g c =
    let here : g.Ix.IndexType.number c.edges.e ≢ g.Ix.IndexType.greatest = λ h. c.edges-test.true cc in
    let low = passed_low c.invariant.ensures.well_formed c.edges.invariant.passing here
    (ends_at c.in-Some.ensures c.index-in-Some.ensures.value) in
    omega (arith, low, c.requires.parents, c.edges.invariant.parents_sized, c.args.parents.now.ok.0, c.edges.parents.ok.0)

pub edges-smaller : goal.edges-smaller
edges-smaller g c =
    let here : g.Ix.IndexType.number c.edges.e ≢ g.Ix.IndexType.greatest = λ h. c.edges-test.true cc in
    passed_closer c.invariant.ensures.well_formed c.edges.invariant.passing here
    (g.Ix.IndexType.number c.next_edge-e.result) c.next_edge-e.ensures

pub edges-smaller-in-Some : goal.edges-smaller-in-Some
edges-smaller-in-Some g c =
    let here : g.Ix.IndexType.number c.edges.e ≢ g.Ix.IndexType.greatest = λ h. c.edges-test.true cc in
    passed_closer c.invariant.ensures.well_formed c.edges.invariant.passing here
    (g.Ix.IndexType.number c.next_edge-e.result) c.next_edge-e.ensures

pub edges-preserved-in-Some : goal.edges-preserved-in-Some
edges-preserved-in-Some g c =
    let here : g.Ix.IndexType.number c.edges.e ≢ g.Ix.IndexType.greatest = λ h. c.edges-test.true cc in
    let w = c.invariant.ensures.well_formed in
    let s = c.edges.invariant in
    let ends = ends_at c.in-Some.ensures c.index-in-Some.ensures.value in
    let low = passed_low w s.passing here ends in
    let room : c.index-in-Some.result < length c.edges.starts.items =
    omega (arith, low, c.requires.starts, s.starts_sized, c.args.starts.now.ok.0) in
    let space : c.index-in-Some.result < length c.edges.parents.items =
    omega (arith, low, c.requires.parents, s.parents_sized, c.args.parents.now.ok.0) in
    delays_one w s here ends (g.Ix.IndexType.number c.next_edge-e.result) c.next_edge-e.ensures c.in-Some-checked_add.time
    (omega (arith, c.in-Some-checked_add.ensures.1, c.lag_at-lag.ensures)) room space
    c.delay.ensures.later c.delay.ensures.put

pub returns-clause-delayed : goal.returns-clause-delayed
returns-clause-delayed g c =
    let at_end : g.Ix.IndexType.number c.edges.e ≡ g.Ix.IndexType.greatest = cc in
    all_delayed c.invariant.ensures.well_formed c.edges.invariant at_end

pub returns-in_default-checked_add-clause-overflow : goal.returns-in_default-checked_add-clause-overflow
returns-in_default-checked_add-clause-overflow g c =
    let here : g.Ix.IndexType.number c.edges.e ≢ g.Ix.IndexType.greatest = λ h. c.edges-test.true cc in
    too_long c.invariant.ensures.well_formed c.edges.invariant here c.in-Some.ensures
    (omega (arith, c.in_default-checked_add.ensures, c.lag_at-lag.ensures))
