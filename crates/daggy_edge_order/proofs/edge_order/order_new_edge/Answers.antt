use Rattle.std.proofs.Common.{◌<◌, ◌∙◌, sym, arith}
use Rattle.std.proofs.lemmas.Bool.{false≢true}
use Rattle.daggy_base.specs.Ordered.{place}
use Rattle.daggy_order.proofs.OrderEdgeResult.{reached_later}
use Rattle.daggy_base.proofs.EdgesFrom.{few_edges}
use Rattle.daggy_edge_order.proofs.KeptBefore.{kept_parted, strictly_behind}
use Rattle.daggy_edge_order.proofs.edge_order.order_new_edge.Goals as goal

pub returns-then-order_without_search-clause-decided : goal.returns-then-order_without_search-clause-decided
returns-then-order_without_search-clause-decided g c = (
  λ h. absurd (false≢true (sym h)),
  λ r. absurd (omega (
    arith,
    c.order_without_search.ensures.before c.if-order_without_search.true,
    reached_later _ _ c.order_without_search.ensures.ordered _ _ r,
  )),
)

pub returns-clause-kept_before : goal.returns-clause-kept_before
returns-clause-kept_before g c t u h =
    let a = g.Ix.IndexType.number c.args.a in
    let b = g.Ix.IndexType.number c.args.b in
    let free = c.order_without_search.ensures in
    let late : place c.order_without_search.new.order b < place c.order_without_search.new.order a =
    rw (free.unchanged c.if-order_without_search.false) (strictly_behind c.requires.ordered a b c.requires.parent c.requires.child
    (free.behind c.if-order_without_search.false)
    (λ r. false≢true (sym (c.order_edge.ensures.decided.1 r) ∙ t))) in
    kept_parted _ a b u c.order_without_search.new.order c.order_edge.new.order (c.order_edge.ensures.moved t late)
    (free.kept_before u h)

pub returns-clause-counted : goal.returns-clause-counted
returns-clause-counted g c =
    let low = place c.order_without_search.new.order (g.Ix.IndexType.number c.args.b) in
    let high = place c.order_without_search.new.order (g.Ix.IndexType.number c.args.a) in
    omega (
      arith,
      few_edges c.invariant.ensures.well_formed c.order_without_search.ensures.ordered low high,
      c.order_edge.ensures.counted,
    )

pub returns-clause-ready : goal.returns-clause-ready
returns-clause-ready g c r =
    c.order_edge.ensures.unlooked (reached_later _ _ c.order_without_search.ensures.ordered _ _ r)
