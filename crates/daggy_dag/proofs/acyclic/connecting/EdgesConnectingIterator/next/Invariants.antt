use Rattle.std.proofs.Common.{◌≡◌, length}
use Rattle.daggy_base.specs.declared.index.Direction.TheVariants.{Outgoing}
use Rattle.daggy_dag.specs.Connecting.{connecting_from}
use Rattle.daggy_dag.specs.Walks.{rest_of_walk}
use Rattle.daggy_dag.proofs.acyclic.connecting.EdgesConnectingIterator.next.Given as goal

abbrev pub invariant-along : goal.invariant-along
invariant-along g l =
    let at = l.self-inside in
    let from = l.initial.self-inside in
    let graph = g.S.EdgeSource.graph from.store.now in
    record {
      store : at.store ≡ from.store;
      child : at.child ≡ from.child;
      same : connecting_from graph (g.Ix.IndexType.number from.next) (g.Ix.IndexType.number from.child)
          ≡ connecting_from graph (g.Ix.IndexType.number at.next) (g.Ix.IndexType.number from.child);
    }

abbrev pub decreases-along : goal.decreases-along
decreases-along g l =
    length (rest_of_walk Outgoing (g.S.EdgeSource.graph l.self-inside.store.now) (g.Ix.IndexType.number l.self-inside.next))
