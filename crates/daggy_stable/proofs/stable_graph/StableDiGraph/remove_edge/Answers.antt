use Rattle.daggy_stable.proofs.StoredRemoval.{on_some_is, none_not}
use Rattle.daggy_stable.proofs.stable_graph.StableDiGraph.remove_edge.Goals as goal

pub returns-clause-removed : goal.returns-clause-removed
returns-clause-removed g c = on_some_is _ _ c.vacate_edge.ensures.removed

pub returns-clause-missing : goal.returns-clause-missing
returns-clause-missing g c =
    none_not (λ x. x.weight) _ _ _ (c.contains_edge_index.ensures.0 c.if-not-contains_edge_index.false) c.vacate_edge.ensures.value
