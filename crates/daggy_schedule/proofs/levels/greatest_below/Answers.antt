use Rattle.std.proofs.Common.{◌≡◌, ◌≢◌, ◌<◌, inl, inr, length, get_or, max, arith, rules}
use Rattle.std.proofs.lemmas.Bool.{cases_lt}
use Rattle.daggy_schedule.proofs.Passing.{edge_exists, passed_closer, passed_low, ends_at}
use Rattle.daggy_schedule.proofs.LongestPaths.{rises_none, rises_one, all_risen}
use Rattle.daggy_schedule.proofs.levels.greatest_below.Goals as goal

pub edges-init : goal.edges-init
edges-init g c = rises_none c.args.levels.now c.first_edge-e.ensures

pub next_edge-e-requires : goal.next_edge-e-requires
next_edge-e-requires g c =
    let here : g.Ix.IndexType.number c.edges.e ≢ g.Ix.IndexType.greatest = λ h. c.edges-test.true cc in
    edge_exists c.invariant.ensures.well_formed c.edges.invariant.passing here

pub edges-smaller : goal.edges-smaller
edges-smaller g c =
    let here : g.Ix.IndexType.number c.edges.e ≢ g.Ix.IndexType.greatest = λ h. c.edges-test.true cc in
    passed_closer c.invariant.ensures.well_formed c.edges.invariant.passing here
    (g.Ix.IndexType.number c.next_edge-e.result) c.next_edge-e.ensures

pub edges-smaller-in-Some : goal.edges-smaller-in-Some
edges-smaller-in-Some g c =
    let here : g.Ix.IndexType.number c.edges.e ≢ g.Ix.IndexType.greatest = λ h. c.edges-test.true cc in
    passed_closer c.invariant.ensures.well_formed c.edges.invariant.passing here
    (g.Ix.IndexType.number c.next_edge-e.result) c.next_edge-e.ensures

pub returns : goal.returns
returns g c =
    let at_end : g.Ix.IndexType.number c.edges.e ≡ g.Ix.IndexType.greatest = cc in
    all_risen c.invariant.ensures.well_formed c.edges.invariant at_end

pub bounds-levels-index : goal.bounds-levels-index
bounds-levels-index g c =
    let here : g.Ix.IndexType.number c.edges.e ≢ g.Ix.IndexType.greatest = λ h. c.edges-test.true cc in
    let ends = ends_at c.in-Some.ensures c.index-in-Some.ensures.value in
    omega (arith, passed_low c.invariant.ensures.well_formed c.edges.invariant.passing here ends, c.requires)

pub offset_bounds-levels-index : goal.offset_bounds-levels-index
offset_bounds-levels-index g c =
    let here : g.Ix.IndexType.number c.edges.e ≢ g.Ix.IndexType.greatest = λ h. c.edges-test.true cc in
    let ends = ends_at c.in-Some.ensures c.index-in-Some.ensures.value in
    let low = passed_low c.invariant.ensures.well_formed c.edges.invariant.passing here ends in
    let h : c.index-in-Some.result < length c.args.levels.now = omega (arith, low, c.requires) in
    search rules

pub edges-preserved-in-Some : goal.edges-preserved-in-Some
edges-preserved-in-Some g c =
    let here : g.Ix.IndexType.number c.edges.e ≢ g.Ix.IndexType.greatest = λ h. c.edges-test.true cc in
    let ends = ends_at c.in-Some.ensures c.index-in-Some.ensures.value in
    let level = get_or c.args.levels.now c.index-in-Some.result 0 in
    let more = c.max-greatest.result in
    let is : more ≡ max c.edges.greatest level = c.max-greatest.ensures in
    rises_one c.invariant.ensures.well_formed c.edges.invariant here ends (g.Ix.IndexType.number c.next_edge-e.result)
    c.next_edge-e.ensures more (omega (arith, is)) (omega (arith, is))
    (elim (cases_lt c.edges.greatest level) [
      | inl less ↦ inr (omega (arith, is, less))
      | inr enough ↦ inl (omega (arith, is, enough))
    ])
