use Rattle.std.proofs.Common.{◌∙◌, ap}
use Rattle.daggy_order.proofs.OrderLaws.{acyclic_from_order}
use Rattle.daggy_dag.proofs.Rewritten.{edges_rewritten}
use Rattle.daggy_dag.proofs.acyclic.stable.rewriting.Acyclic+N+E+Ix+StableDiGraph+N+E+Ix.update_edge_weights.Goals as goal

pub update_edge_weights-requires : goal.update_edge_weights-requires
update_edge_weights-requires g c = rw (← (ap (λ i. i.guarded) c.self-inside.view_is ∙ c.self.view_is)) at c.requires

pub invariant_of-self-inside : goal.invariant_of-self-inside
invariant_of-self-inside g c =
    edges_rewritten _ g.Ix.IndexType.of c.args.f _ _ _ c.self-inside.invariant (goal.F-step g)
    c.update_edge_weights.ensures.written

pub returns-clause-written : goal.returns-clause-written
returns-clause-written g c = rw (← (ap (λ i. i.guarded) c.self-inside.view_is ∙ c.self.view_is)) c.update_edge_weights.ensures.written

pub returns-clause-acyclic : goal.returns-clause-acyclic
returns-clause-acyclic g c = acyclic_from_order c.self-inside.inside.0.0.order (invariant_of-self-inside g c).0
