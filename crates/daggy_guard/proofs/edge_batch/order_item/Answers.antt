use Rattle.std.proofs.Common.{◌≤◌, ◌<◌, ◌+◌, arith, subst}
use Rattle.daggy_base.specs.Graph.{edge_count}
use Rattle.daggy_base.specs.Ordered.{place}
use Rattle.daggy_base.proofs.EdgesFrom.{few_edges}
use Rattle.daggy_guard.specs.BatchProgress.{IsWithin}
use Rattle.daggy_guard.specs.declared.edge_batch.Standing.{Standing}
use Rattle.daggy_guard.proofs.StandingAfterEdge.{within_searched, within_kept}
use Rattle.daggy_guard.proofs.edge_batch.order_item.Given.{Over}
use Rattle.daggy_guard.proofs.edge_batch.order_item.Goals.{After-order_edge_counted}
use Rattle.daggy_guard.proofs.edge_batch.order_item.Goals as goal

-- the search reads no more than all edges
few : (g : Over) (c : After-order_edge_counted g)
    → g.S.EdgeSource.looks c.order_edge_counted.new.source
    ≤ g.S.EdgeSource.looks c.args.store.now + edge_count (g.S.EdgeSource.graph c.args.store.now)
few g c =
    let low = place c.order_without_search.new.order (g.Ix.IndexType.number c.args.b) in
    let high = place c.order_without_search.new.order (g.Ix.IndexType.number c.args.a) in
    omega (
      arith,
      few_edges c.invariant.ensures.well_formed c.order_without_search.ensures.ordered low high,
      c.order_edge_counted.ensures.counted,
    )

some : (g : Over) (c : After-order_edge_counted g) → 0 < c.in-Kept.left
some g c = omega (arith, c.if-left-eq0.false)

pub returns-in-Some-clause-counted : goal.returns-in-Some-clause-counted
returns-in-Some-clause-counted g c budget start w =
    let at = (goal.at.returns-in-Some-clause-counted g c).After-order_edge_counted in
    let edges = edge_count (g.S.EdgeSource.graph c.args.store.now) in
    let looks = g.S.EdgeSource.looks c.args.store.now in
    let P : Standing → Type 0 = λ z. IsWithin budget edges start looks z in
    rw c.saturating_sub.ensures (within_kept budget edges start looks c.in-Kept.left _ (some g at) (subst P c.in-Kept.is w)
    (few g at) c.in-Some.looks c.in-Some.ensures.noted)

pub returns-in-None-clause-counted : goal.returns-in-None-clause-counted
returns-in-None-clause-counted g c budget start w =
    let at = (goal.at.returns-in-None-clause-counted g c).After-order_edge_counted in
    let edges = edge_count (g.S.EdgeSource.graph c.args.store.now) in
    let looks = g.S.EdgeSource.looks c.args.store.now in
    let P : Standing → Type 0 = λ z. IsWithin budget edges start looks z in
    within_searched budget edges start looks c.in-Kept.left _ (some g at) (subst P c.in-Kept.is w) (few g at)
