use Rattle.std.proofs.Common.{◌≡◌, ◌≢◌, false, ◌<◌, ◌≤◌, ◌∙◌, inl, inr, sym}
use Rattle.std.proofs.lemmas.Bool.{false≢true, cases_lt}
use Rattle.daggy_base.specs.Ordered.{IsOrderOf, place}
use Rattle.daggy_base.proofs.Lists.{contains_mem}
use Rattle.daggy_order.proofs.MovedForward.{order_moved_before, order_moved_first}
use Rattle.daggy_edge_order.proofs.edge_order.order_without_search.Given.{Over}
use Rattle.daggy_edge_order.proofs.KeptBefore.{kept_first, kept_moved}
use Rattle.daggy_edge_order.proofs.edge_order.order_without_search.Goals.{After-move_before, After-stands_before}
use Rattle.daggy_edge_order.proofs.edge_order.order_without_search.Goals as goal

-- a does not precede b
behind : (g : Over) (c : After-stands_before g) → c.stands_before.result ≡ false
    → place c.args.order.now (g.Ix.IndexType.number c.args.b) ≤ place c.args.order.now (g.Ix.IndexType.number c.args.a)
behind g c f =
    let a = g.Ix.IndexType.number c.args.a in
    let b = g.Ix.IndexType.number c.args.b in
    elim (cases_lt (place c.args.order.now a) (place c.args.order.now b)) [
      | inl l ↦ absurd (false≢true (sym f ∙ c.stands_before.ensures.1 l))
      | inr h ↦ h
    ]

-- where all parents of a stand before b, a does too once it is put there, and the order stays one
moved : (g : Over) (c : After-move_before g)
    → IsOrderOf (g.S.EdgeSource.graph c.args.store.now) c.move_before.new.self
    × (place c.move_before.new.self (g.Ix.IndexType.number c.args.a)
    < place c.move_before.new.self (g.Ix.IndexType.number c.args.b))
moved g c =
    let a = g.Ix.IndexType.number c.args.a in
    let b = g.Ix.IndexType.number c.args.b in
    let differs : a ≢ b = λ e. c.if-index.true (c.index.ensures.value ∙ (e ∙ sym c.index-2.ensures.value)) in
    let late : place c.args.order.now b ≤ place c.args.order.now a =
    elim (cases_lt (place c.args.order.now a) (place c.args.order.now b)) [
      | inl l ↦ absurd (false≢true (sym c.if-stands_before.false ∙ c.stands_before.ensures.1 l))
      | inr h ↦ h
    ] in
    order_moved_before c.invariant.ensures.well_formed c.args.order.now a b c.requires.ordered differs
    late (c.parents_stand_before.ensures c.if-parents_stand_before.true) c.requires.parent c.requires.child
    c.move_before.new.self c.move_before.ensures

pub returns-then-not-has_parents-clause-kept_before : goal.returns-then-not-has_parents-clause-kept_before
returns-then-not-has_parents-clause-kept_before g c u h =
    let a = g.Ix.IndexType.number c.args.a in
    let b = g.Ix.IndexType.number c.args.b in
    let differs : a ≢ b = λ e. c.if-index.true (c.index.ensures.value ∙ (e ∙ sym c.index-2.ensures.value)) in
    rw c.move_first.ensures (kept_first c.args.order.now a b u differs h)

pub returns-then-parents_stand_before-clause-kept_before : goal.returns-then-parents_stand_before-clause-kept_before
returns-then-parents_stand_before-clause-kept_before g c u h =
    let a = g.Ix.IndexType.number c.args.a in
    let b = g.Ix.IndexType.number c.args.b in
    let differs : a ≢ b = λ e. c.if-index.true (c.index.ensures.value ∙ (e ∙ sym c.index-2.ensures.value)) in
    kept_moved c.args.order.now c.move_before.new.self a b u differs
    (contains_mem c.args.order.now b ((c.requires.ordered.exact b).1 c.requires.child))
    (behind g (goal.at.returns-then-parents_stand_before-clause-kept_before g c).After-stands_before
    c.if-stands_before.false) c.move_before.ensures h

pub returns-then-not-has_parents-clause-ordered : goal.returns-then-not-has_parents-clause-ordered
returns-then-not-has_parents-clause-ordered g c =
    rw c.move_first.ensures (order_moved_first c.invariant.ensures.well_formed c.args.order.now _
    c.requires.ordered c.requires.parent (c.has_parents.ensures c.if-not-has_parents.true))

pub returns-then-parents_stand_before-clause-ordered : goal.returns-then-parents_stand_before-clause-ordered
returns-then-parents_stand_before-clause-ordered g c =
    (moved g (goal.at.returns-then-parents_stand_before-clause-ordered g c).After-move_before).0

pub returns-then-parents_stand_before-clause-before : goal.returns-then-parents_stand_before-clause-before
returns-then-parents_stand_before-clause-before g c t =
    (moved g (goal.at.returns-then-parents_stand_before-clause-before g c).After-move_before).1

pub returns-else-index-clause-behind : goal.returns-else-index-clause-behind
returns-else-index-clause-behind g c f =
    behind g (goal.at.returns-else-index-clause-behind g c).After-stands_before c.if-stands_before.false

pub returns-else-parents_stand_before-clause-behind : goal.returns-else-parents_stand_before-clause-behind
returns-else-parents_stand_before-clause-behind g c f =
    behind g (goal.at.returns-else-parents_stand_before-clause-behind g c).After-stands_before c.if-stands_before.false
