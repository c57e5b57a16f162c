use Rattle.daggy_base.specs.Weights.{with_node_weight, with_edge_weight}
use Rattle.std.proofs.Common.{sym, subst, ◌∙◌, ap}
use Rattle.daggy_base.specs.Graph.{HasNode}
use Rattle.daggy_order.proofs.OrderLaws.{acyclic_from_order}
use Rattle.daggy_dag.proofs.OrderWithWeights.{node_and_edge_written, stays_dag}
use Rattle.daggy_dag.proofs.acyclic.compact.two_weights.Acyclic+N+E+Ix+DiGraph+N+E+Ix.update_node_and_edge.Goals as goal

pub invariant_of-self-inside : goal.invariant_of-self-inside
invariant_of-self-inside g c =
    let r = c.update_node_and_edge.ensures in
    let s = c.self-inside.inside.0.0.store in
    let n = g.Ix.IndexType.number c.args.n in
    let e = g.Ix.IndexType.number c.args.e in
    let there : HasNode s.graph n = subst (λ z. HasNode z.graph n) (sym (ap (λ i. i.guarded) c.self-inside.view_is ∙ c.self.view_is)) c.requires.node in
    stays_dag c.self-inside.inside.0.0.order c.self-inside.inside.0.0.scratch.nodes s _
    (with_edge_weight (with_node_weight s.graph n r.first_left.now) e r.second_left.now) r.leaves
    (node_and_edge_written _ s.graph _ c.self-inside.invariant n e r.first_left.now r.second_left.now there)

pub returns-clause-called : goal.returns-clause-called
returns-clause-called g c = rw (← (ap (λ i. i.guarded) c.self-inside.view_is ∙ c.self.view_is)) c.update_node_and_edge.ensures

pub returns-clause-acyclic : goal.returns-clause-acyclic
returns-clause-acyclic g c = acyclic_from_order c.self-inside.inside.0.0.order (invariant_of-self-inside g c).0
