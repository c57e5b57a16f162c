use Rattle.std.proofs.Common.{ℕ, sym, subst}
use Rattle.std.specs.List.{Contains}
use Rattle.daggy_edge_order.proofs.ParentsAsked.{none_asked, all_asked, one_asked}
use Rattle.daggy_visit.proofs.WalkedEdges.{no_step, one_step}
use Rattle.daggy_edge_order.proofs.edge_order.parents_stand_before.Goals as goal

pub parents-init : goal.parents-init
parents-init g c = none_asked _ _ _ _ _ _ c.first_edge-cursor.ensures

pub returns-in_default : goal.returns-in_default
returns-in_default g c t =
    all_asked c.invariant.ensures.well_formed c.parents.invariant (no_step _ _ _ _ _ c.in_default.ensures)

pub stands_before-requires-clause-first : goal.stands_before-requires-clause-first
stands_before-requires-clause-first g c =
    let s = one_step _ _ _ _ _ _ c.in-Some.ensures in
    let P : ℕ → Type 0 = λ z. Contains c.args.order.now z in
    subst P (sym s.2)
    ((c.requires.ordered.exact s.0.parent).1 (c.invariant.ensures.well_formed.parents _ s.0 s.1))

pub parents-preserved : goal.parents-preserved
parents-preserved g c =
    one_asked c.invariant.ensures.well_formed c.parents.invariant _ _ c.in-Some.ensures
    (c.stands_before.ensures.0 c.if-not-stands_before.false)
