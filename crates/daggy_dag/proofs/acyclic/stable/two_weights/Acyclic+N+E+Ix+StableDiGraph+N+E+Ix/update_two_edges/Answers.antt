use Rattle.std.proofs.Common.{◌∙◌, ap}
use Rattle.daggy_base.specs.Weights.{with_edge_weight}
use Rattle.daggy_order.proofs.OrderLaws.{acyclic_from_order}
use Rattle.daggy_dag.proofs.OrderWithWeights.{edges_written, stays_dag}
use Rattle.daggy_dag.proofs.acyclic.stable.two_weights.Acyclic+N+E+Ix+StableDiGraph+N+E+Ix.update_two_edges.Goals
    as goal

pub invariant_of-self-inside : goal.invariant_of-self-inside
invariant_of-self-inside g c =
    let r = c.update_two_edges.ensures in
    let s = c.self-inside.inside.0.0.store in
    let a = g.Ix.IndexType.number c.args.a in
    let b = g.Ix.IndexType.number c.args.b in
    stays_dag c.self-inside.inside.0.0.order c.self-inside.inside.0.0.scratch.nodes s _
    (with_edge_weight (with_edge_weight s.graph a r.first_left.now) b r.second_left.now) r.leaves
    (edges_written _ s.graph _ c.self-inside.invariant a b r.first_left.now r.second_left.now)

pub returns-clause-called : goal.returns-clause-called
returns-clause-called g c = rw (← (ap (λ i. i.guarded) c.self-inside.view_is ∙ c.self.view_is)) c.update_two_edges.ensures

pub returns-clause-acyclic : goal.returns-clause-acyclic
returns-clause-acyclic g c = acyclic_from_order c.self-inside.inside.0.0.order (invariant_of-self-inside g c).0
