use Rattle.std.proofs.Common.{◌≡◌, sym, ap, ◌∙◌, arith}
use Rattle.std.proofs.lemmas.Bool.{false≢true}
use Rattle.daggy_base.specs.Ordered.{place}
use Rattle.daggy_base.proofs.EdgesFrom.{few_edges}
use Rattle.daggy_edge_order.proofs.KeptBefore.{reached_behind, strictly_behind}
use Rattle.daggy_guard.proofs.ParentsInTurn.{reaches_same}
use Rattle.daggy_guard.proofs.parents.order_up_to.Goals as goal

pub returns-then-index-clause-reached : goal.returns-then-index-clause-reached
returns-then-index-clause-reached g c t u has_u within late =
    let last = g.Ix.IndexType.number c.args.last in
    let n = g.Ix.IndexType.number c.args.n in
    let same : last ≡ n = sym c.index.ensures.value ∙ c.if-index.true ∙ c.index-2.ensures.value in
    reaches_same c.requires.ordered n u c.requires.node has_u late
    (omega (arith, within, ap (place c.args.order.now) same))

pub returns-clause-reached : goal.returns-clause-reached
returns-clause-reached g c t u has_u within late =
    let last = g.Ix.IndexType.number c.args.last in
    let n = g.Ix.IndexType.number c.args.n in
    let behind =
    strictly_behind c.requires.ordered last n c.requires.last c.requires.node c.requires.behind
    (λ r. false≢true (sym (c.order_edge.ensures.decided.1 r) ∙ t)) in
    reached_behind _ last n u c.args.order.now c.order_edge.new.order c.requires.ordered c.requires.node has_u
    (c.order_edge.ensures.moved t behind) c.requires.behind within late

pub returns-clause-counted : goal.returns-clause-counted
returns-clause-counted g c =
    let low = place c.args.order.now (g.Ix.IndexType.number c.args.n) in
    let high = place c.args.order.now (g.Ix.IndexType.number c.args.last) in
    omega (
      arith,
      few_edges c.invariant.ensures.well_formed c.requires.ordered low high,
      c.order_edge.ensures.counted,
    )
