use Rattle.std.proofs.Common.{◌≡◌, ℕ, List, ◌++◌}
use Rattle.daggy_dag.specs.Recomputing.{DiffersInWeights, RecomputesInTurn}
use Rattle.daggy_dag.proofs.acyclic.recomputing.try_recompute_nodes.Given as goal

abbrev pub invariant-nodes : goal.invariant-nodes
invariant-nodes g l =
    let graph = g.S.EdgeSource.graph in
    record {
      done : List ℕ;
      split : l.fn.nodes ≡ done ++ l.nodes;
      so_far : RecomputesInTurn graph g.Ix.IndexType.of (goal.F-step g) done l.fn.f (graph l.fn.store) l.f (graph l.store);
      alike : DiffersInWeights (graph l.fn.store) (graph l.store);
      looks : g.S.EdgeSource.looks l.store ≡ g.S.EdgeSource.looks l.fn.store;
    }
