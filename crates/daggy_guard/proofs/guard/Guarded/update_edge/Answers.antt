use Rattle.std.proofs.Common.{sym, ap, subst, arith}
use Rattle.daggy_base.specs.Graph.{node_bound}
use Rattle.daggy_base.specs.Path.{AreJoined, IsAcyclic}
use Rattle.daggy_base.proofs.PathsWithEdge.{no_round}
use Rattle.daggy_base.proofs.FoundEdge.{found_between, joined_between, edge_between_exists}
use Rattle.daggy_order.proofs.OrderLaws.{acyclic_from_order, order_with_edge_weight}
use Rattle.daggy_guard.proofs.GuardedChange.{same_graph}
use Rattle.daggy_guard.proofs.OrderAfterChange.{order_kept}
use Rattle.daggy_guard.proofs.guard.Guarded.update_edge.Goals as goal

pub replace_edge_weight-old-requires : goal.replace_edge_weight-old-requires
replace_edge_weight-old-requires g c =
    edge_between_exists (found_between _ _ _ _ c.invariant.ensures.well_formed (sym c.in-Some.ensures))

pub returns-in-Some-clause-cycle : goal.returns-in-Some-clause-cycle
returns-in-Some-clause-cycle g c =
    let a = g.Ix.IndexType.number c.args.a in
    let b = g.Ix.IndexType.number c.args.b in
    let same = same_graph c.self.view_is in
    let joined =
    joined_between (found_between _ _ _ _ c.invariant.ensures.well_formed (sym c.in-Some.ensures)) in (
      λ h. absurd cc,
      λ r.
          absurd (no_round c.args.self.now.graph
          (subst (λ z. IsAcyclic z) same (acyclic_from_order _ c.self.invariant.0)) a b c.requires.parent
          (subst (λ z. AreJoined z a b) same joined) r),
    )

pub invariant_of-self : goal.invariant_of-self
invariant_of-self g c = (
  order_kept (order_with_edge_weight _ c.self.invariant.0 (g.Ix.IndexType.number c.in-Some.e) c.args.weight)
      c.replace_edge_weight-old.ensures.replaced,
  omega (arith, ap node_bound c.replace_edge_weight-old.ensures.replaced, c.self.invariant.1),
)

pub returns-in-Some-clause-acyclic : goal.returns-in-Some-clause-acyclic
returns-in-Some-clause-acyclic g c = acyclic_from_order _ (invariant_of-self g c).0
