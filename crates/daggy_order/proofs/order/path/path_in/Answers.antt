use Rattle.std.proofs.Common.{refl, sym, ◌∙◌}
use Rattle.std.proofs.lemmas.Bool.{false≢true}
use Rattle.daggy_base.proofs.PathEnds.{reached_exists}
use Rattle.daggy_order.proofs.OrderEdgeResult.{not_reached}
use Rattle.daggy_order.proofs.Tails.{tailed_flushed}
use Rattle.daggy_order.proofs.order.path.path_in.Goals as goal

pub returns-then-not-contains_node-2-clause-none : goal.returns-then-not-contains_node-2-clause-none
returns-then-not-contains_node-2-clause-none g c = (
  λ h r. false≢true (sym c.if-not-contains_node-2.true ∙ c.contains_node-2.ensures.exists.1 (reached_exists
      (g.S.EdgeSource.graph c.args.source.now) (g.Ix.IndexType.number c.args.a) (g.Ix.IndexType.number c.args.b) r)),
  λ h. refl,
)

pub returns-then-not-stands_before-clause-none : goal.returns-then-not-stands_before-clause-none
returns-then-not-stands_before-clause-none g c = (
  λ h. not_reached (g.S.EdgeSource.graph c.args.source.now) c.args.order.now c.requires.ordered
      (g.Ix.IndexType.number c.args.a) (g.Ix.IndexType.number c.args.b) (c.contains_node.ensures.exists.0 cc)
      (c.contains_node-2.ensures.exists.0 cc)
      (λ e. c.if-index.false (c.index.ensures.value ∙ (e ∙ sym c.index-2.ensures.value)))
      (λ low. false≢true (sym c.if-not-stands_before.true ∙ c.stands_before.ensures.1 low)),
  λ h. refl,
)

pub invariant_of-order : goal.invariant_of-order
invariant_of-order g c =
    let flushed = c.flush-order-inside.ensures in
    tailed_flushed c.order.invariant flushed.nodes flushed.from flushed.count flushed.index_bound
