use Rattle.daggy_base.specs.Weights.{with_node_weight}
use Rattle.std.proofs.Common.{sym, subst, ◌∙◌, ap}
use Rattle.daggy_base.specs.Graph.{HasNode}
use Rattle.daggy_order.proofs.OrderLaws.{acyclic_from_order}
use Rattle.daggy_dag.proofs.OrderWithWeights.{nodes_written, stays_dag}
use Rattle.daggy_dag.proofs.acyclic.stable.two_weights.Acyclic+N+E+Ix+StableDiGraph+N+E+Ix.update_two_nodes.Goals
    as goal

pub invariant_of-self-inside : goal.invariant_of-self-inside
invariant_of-self-inside g c =
    let r = c.update_two_nodes.ensures in
    let s = c.self-inside.inside.0.0.store in
    let a = g.Ix.IndexType.number c.args.a in
    let b = g.Ix.IndexType.number c.args.b in
    let first : HasNode s.graph a = subst (λ z. HasNode z.graph a) (sym (ap (λ i. i.guarded) c.self-inside.view_is ∙ c.self.view_is)) c.requires.first in
    let second : HasNode s.graph b = subst (λ z. HasNode z.graph b) (sym (ap (λ i. i.guarded) c.self-inside.view_is ∙ c.self.view_is)) c.requires.second in
    stays_dag c.self-inside.inside.0.0.order c.self-inside.inside.0.0.scratch.nodes s _
    (with_node_weight (with_node_weight s.graph a r.first_left.now) b r.second_left.now) r.leaves
    (nodes_written _ s.graph _ c.self-inside.invariant a b r.first_left.now r.second_left.now first second)

pub returns-clause-called : goal.returns-clause-called
returns-clause-called g c = rw (← (ap (λ i. i.guarded) c.self-inside.view_is ∙ c.self.view_is)) c.update_two_nodes.ensures

pub returns-clause-acyclic : goal.returns-clause-acyclic
returns-clause-acyclic g c = acyclic_from_order c.self-inside.inside.0.0.order (invariant_of-self-inside g c).0
