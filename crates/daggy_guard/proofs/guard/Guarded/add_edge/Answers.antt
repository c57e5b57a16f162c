use Rattle.std.proofs.Common.{◌∙◌, sym, subst, rules}
use Rattle.std.proofs.lemmas.Bool.{false≢true}
use Rattle.daggy_base.specs.Path.{Reaches}
use Rattle.daggy_base.specs.WellFormed.{IsWellFormed}
use Rattle.daggy_order.proofs.OrderLaws.{acyclic_from_order}
use Rattle.daggy_guard.proofs.GuardedChange.{first_edge, same_graph, same_looks}
use Rattle.daggy_guard.proofs.OrderAfterChange.{acyclic_by, order_of_edge}
use Rattle.daggy_guard.proofs.RefusedEdge.{no_cycle}
use Rattle.daggy_guard.proofs.guard.Guarded.add_edge.Goals as goal

pub returns-then-not-order_new_edge-clause-acyclic : goal.returns-then-not-order_new_edge-clause-acyclic
returns-then-not-order_new_edge-clause-acyclic g c = acyclic_by c.order_new_edge.ensures.ordered c.order_new_edge.ensures.same

pub invariant_of-self-2 : goal.invariant_of-self-2
invariant_of-self-2 g c = (
  order_of_edge c.add_edge.result _ _ c.args.weight c.order_new_edge.ensures.ordered
      (c.order_new_edge.ensures.before c.if-not-order_new_edge.false) c.order_new_edge.ensures.same c.add_edge.ensures.added
      c.add_edge.ensures.unchanged,
  search rules,
)

pub returns-clause-acyclic : goal.returns-clause-acyclic
returns-clause-acyclic g c = acyclic_from_order _ (invariant_of-self-2 g c).0

pub returns-clause-cycle : goal.returns-clause-cycle
returns-clause-cycle g c =
    let a = g.Ix.IndexType.number c.args.a in
    let b = g.Ix.IndexType.number c.args.b in
    no_cycle {Back = Reaches c.args.self.now.graph b a} c.add_edge.result c.args.weight c.add_edge.ensures.refusal
    (λ r.
    let back = subst (λ z. Reaches z b a) (sym (same_graph c.self.view_is)) r in
    false≢true (sym (c.order_new_edge.ensures.decided.1 back) ∙ c.if-not-order_new_edge.false))

pub returns-clause-first : goal.returns-clause-first
returns-clause-first g c =
    let same = same_graph c.self.view_is in
    first_edge g.Ix.IndexType.number c.add_edge.result _
    (g.Ix.IndexType.number c.args.a, g.Ix.IndexType.number c.args.b, c.args.weight)
    (subst (IsWellFormed g.Ix.IndexType.greatest) same c.invariant.ensures.well_formed)
    (c.requires.parent, c.requires.child) (c.order_new_edge.ensures.same ∙ same) c.add_edge.ensures.index
    c.add_edge.ensures.added

pub returns-clause-ready : goal.returns-clause-ready
returns-clause-ready g c r =
    let a = g.Ix.IndexType.number c.args.a in
    let b = g.Ix.IndexType.number c.args.b in
    let forth = subst (λ z. Reaches z a b) (sym (same_graph c.self.view_is)) r in
    c.add_edge.ensures.counted ∙ c.order_new_edge.ensures.ready forth ∙ same_looks c.self.view_is
