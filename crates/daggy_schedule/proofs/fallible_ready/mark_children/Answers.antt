use Rattle.std.proofs.Common.{◌≡◌, ◌≢◌, arith}
use Rattle.daggy_schedule.proofs.Passing.{edge_exists, passed_closer, passed_low, ends_at}
use Rattle.daggy_schedule.proofs.Skipping.{marking_none, marking_one, all_marked}
use Rattle.daggy_schedule.proofs.fallible_ready.mark_children.Goals as goal

pub edges-init : goal.edges-init
edges-init g c =
    marking_none g.Ix.IndexType.greatest (g.S.EdgeSource.graph c.args.store.now) (g.Ix.IndexType.number c.args.n)
    c.args.marks.now.items c.first_edge-e.ensures

pub next_edge-e-requires : goal.next_edge-e-requires
next_edge-e-requires g c =
    let here : g.Ix.IndexType.number c.edges.e ≢ g.Ix.IndexType.greatest = λ h. c.edges-test.true cc in
    edge_exists c.invariant.ensures.well_formed c.edges.invariant.passing here

pub index_mut-requires : goal.index_mut-requires
index_mut-requires g c =
    let here : g.Ix.IndexType.number c.edges.e ≢ g.Ix.IndexType.greatest = λ h. c.edges-test.true cc in
    let low = passed_low c.invariant.ensures.well_formed c.edges.invariant.passing here
    (ends_at c.in-Some.ensures c.index-in-Some.ensures.value) in
    omega (arith, low, c.requires, c.edges.invariant.sized, c.args.marks.now.ok.0, c.edges.marks.ok.0)

pub edges-smaller : goal.edges-smaller
edges-smaller g c =
    let here : g.Ix.IndexType.number c.edges.e ≢ g.Ix.IndexType.greatest = λ h. c.edges-test.true cc in
    passed_closer c.invariant.ensures.well_formed c.edges.invariant.passing here
    (g.Ix.IndexType.number c.next_edge-e.result) c.next_edge-e.ensures

pub edges-smaller-in-Some : goal.edges-smaller-in-Some
edges-smaller-in-Some g c =
    let here : g.Ix.IndexType.number c.edges.e ≢ g.Ix.IndexType.greatest = λ h. c.edges-test.true cc in
    passed_closer c.invariant.ensures.well_formed c.edges.invariant.passing here
    (g.Ix.IndexType.number c.next_edge-e.result) c.next_edge-e.ensures

pub edges-preserved-in-Some : goal.edges-preserved-in-Some
edges-preserved-in-Some g c =
    let here : g.Ix.IndexType.number c.edges.e ≢ g.Ix.IndexType.greatest = λ h. c.edges-test.true cc in
    let w = c.invariant.ensures.well_formed in
    let s = c.edges.invariant in
    let ends = ends_at c.in-Some.ensures c.index-in-Some.ensures.value in
    let low = passed_low w s.passing here ends in
    marking_one w s here ends (g.Ix.IndexType.number c.next_edge-e.result) c.next_edge-e.ensures
    (omega (arith, low, c.requires, s.sized, c.args.marks.now.ok.0))

pub returns-clause-marked : goal.returns-clause-marked
returns-clause-marked g c =
    let at_end : g.Ix.IndexType.number c.edges.e ≡ g.Ix.IndexType.greatest = cc in
    all_marked c.invariant.ensures.well_formed c.edges.invariant at_end

pub returns-clause-sized : goal.returns-clause-sized
returns-clause-sized g c =
    omega (arith, c.edges.invariant.sized, c.args.marks.now.ok.0, c.edges.marks.ok.0)
