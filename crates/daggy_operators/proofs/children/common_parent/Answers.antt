use Rattle.std.proofs.Common.{◌∙◌, sym}
use Rattle.daggy_operators.proofs.ChildOrder.{no_first, no_second, no_siblings, siblings, if_none}
use Rattle.daggy_operators.proofs.children.common_parent.Goals as goal

pub returns-in_err-first-clause-none : goal.returns-in_err-first-clause-none
returns-in_err-first-clause-none g c =
    let number = g.Ix.IndexType.number in
    if_none c.from_residual.result
    (λ n. no_first c.invariant.ensures.well_formed n (number c.args.a) (number c.args.b) c.in_err-first.ensures)

pub returns-in_err-second-clause-none : goal.returns-in_err-second-clause-none
returns-in_err-second-clause-none g c =
    let number = g.Ix.IndexType.number in
    if_none c.from_residual-in_err-second.result
    (λ n. no_second c.invariant.ensures.well_formed n (number c.args.a) (number c.args.b) c.in_err-second.ensures)

pub returns-then-index-2-clause-none : goal.returns-then-index-2-clause-none
returns-then-index-2-clause-none g c =
    no_siblings c.invariant.ensures.well_formed c.in_ok-first.ensures c.in_ok-second.ensures
    (λ same. c.if-index-2.true (c.index-3.ensures.value ∙ (same ∙ sym c.index-4.ensures.value)))

pub returns-clause-some : goal.returns-clause-some
returns-clause-some g c =
    siblings c.invariant.ensures.well_formed c.in_ok-first.ensures c.in_ok-second.ensures
    (λ same. c.if-index.false (c.index.ensures.value ∙ (same ∙ sym c.index-2.ensures.value)))
    (sym c.index-3.ensures.value ∙ (c.if-index-2.false ∙ c.index-4.ensures.value))
