use Rattle.std.proofs.Common.{◌≡◌, ◌↔◌, ◌∙◌, Bool, Option, None, Some, is_some, not, refl, sym, true, false}
use Rattle.std.proofs.lemmas.Bool.{false≢true}
use Rattle.std.proofs.lemmas.Option.{none-some}
use Rattle.daggy_base.proofs.PathEnds.{reached_exists}
use Rattle.daggy_order.proofs.OrderEdgeResult.{not_reached}
use Rattle.daggy_order.proofs.Tails.{tailed_flushed}
use Rattle.daggy_order.proofs.order.reaching.reaches_in.Goals as goal

pub returns-then-not-contains_node-2-clause-decided : goal.returns-then-not-contains_node-2-clause-decided
returns-then-not-contains_node-2-clause-decided g c =
    let missing : c.contains_node-2.result ≡ false = cc in (
      λ h. absurd (false≢true h),
      λ r. absurd (false≢true (sym missing ∙ c.contains_node-2.ensures.exists.1 (reached_exists
          (g.S.EdgeSource.graph c.args.source.now) (g.Ix.IndexType.number c.args.a) (g.Ix.IndexType.number c.args.b) r))),
    )

pub returns-then-not-stands_before-clause-decided : goal.returns-then-not-stands_before-clause-decided
returns-then-not-stands_before-clause-decided g c =
    let late : c.stands_before.result ≡ false = cc in (
      λ h. absurd (false≢true h),
      λ r. absurd (not_reached (g.S.EdgeSource.graph c.args.source.now) c.args.order.now c.requires.ordered
          (g.Ix.IndexType.number c.args.a) (g.Ix.IndexType.number c.args.b) (c.contains_node.ensures.exists.0 cc)
          (c.contains_node-2.ensures.exists.0 cc)
          (λ e. c.if-index.false (c.index.ensures.value ∙ (e ∙ sym c.index-2.ensures.value)))
          (λ h. false≢true (sym late ∙ c.stands_before.ensures.1 h)) r),
    )

pub invariant_of-order : goal.invariant_of-order
invariant_of-order g c =
    let flushed = c.flush-order-inside.ensures in
    tailed_flushed c.order.invariant flushed.nodes flushed.from flushed.count flushed.index_bound

none_told : {A : Type 0} (o : Option A) (b : Bool) → is_some o ≡ not b → (b ≡ true) ↔ (o ≡ None)
none_told None true told = (λ h. refl, λ h. refl)
none_told None false told = absurd (false≢true told)
none_told (Some x) true told = absurd (false≢true (sym told))
none_told (Some x) false told = (λ h. absurd (false≢true h), λ h. absurd (none-some x (sym h)))

pub returns-clause-decided : goal.returns-clause-decided
returns-clause-decided g c =
    let told = none_told c.reaches_before.result c.is_none.result c.is_none.ensures in
    let decided = c.reaches_before.ensures.decided in
    (λ h. decided.0 (told.0 h), λ r. told.1 (decided.1 r))
