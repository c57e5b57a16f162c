use Rattle.daggy_dag.proofs.OrderKept.{stays_so}
use Rattle.daggy_dag.proofs.OrderWithWeights.{edge_written}
use Rattle.daggy_dag.proofs.acyclic.weights.AcyclicIndexMutEdgeIndex.index_mut.Goals as goal

pub invariant_of-self-inside-lent : goal.invariant_of-self-inside-lent
invariant_of-self-inside-lent g c =
    let e = g.Ix.IndexType.number c.args.e in
    let s = c.self-inside.inside.0.0.store in
    λ w. stays_so c.self-inside.inside.0.0.order c.self-inside.inside.0.0.scratch.nodes _ _ (g.met.S.Store.edge_written_is s e w)
    (edge_written c.self-inside.inside.0.0.scratch.nodes (g.S.EdgeSource.graph s) c.self-inside.inside.0.0.order c.self-inside.invariant e w)
