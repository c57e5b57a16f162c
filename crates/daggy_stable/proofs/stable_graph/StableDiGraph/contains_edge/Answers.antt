use Rattle.daggy_base.proofs.JoinedByEdge.{joined_if_found}
use Rattle.daggy_stable.proofs.stable_graph.StableDiGraph.contains_edge.Goals as goal

pub returns : goal.returns
returns g c =
    rw c.is_some.ensures (joined_if_found _ _ _ _ c.find_edge.result c.edge_count-well_formed.ensures.well_formed c.find_edge.ensures)
