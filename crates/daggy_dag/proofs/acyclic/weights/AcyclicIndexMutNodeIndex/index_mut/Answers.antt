use Rattle.std.proofs.Common.{sym, subst, ◌∙◌, ap}
use Rattle.daggy_base.specs.Graph.{HasNode}
use Rattle.daggy_dag.proofs.OrderKept.{stays_so}
use Rattle.daggy_dag.proofs.OrderWithWeights.{node_written}
use Rattle.daggy_dag.proofs.acyclic.weights.AcyclicIndexMutNodeIndex.index_mut.Goals as goal

pub invariant_of-self-inside-lent : goal.invariant_of-self-inside-lent
invariant_of-self-inside-lent g c =
    let n = g.Ix.IndexType.number c.args.n in
    let s = c.self-inside.inside.0.0.store in
    let there : HasNode (g.S.EdgeSource.graph s) n = subst (λ z. HasNode z.graph n) (sym (ap (λ i. i.guarded) c.self-inside.view_is ∙ c.self.view_is)) c.requires in
    λ w. stays_so c.self-inside.inside.0.0.order c.self-inside.inside.0.0.scratch.nodes _ _ (g.met.S.Store.node_written_is s n w)
    (node_written c.self-inside.inside.0.0.scratch.nodes (g.S.EdgeSource.graph s) c.self-inside.inside.0.0.order c.self-inside.invariant n w there)
