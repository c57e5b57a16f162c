use Rattle.daggy_search.proofs.ReversedGraph.{reversed_well_formed}
use Rattle.daggy_search.proofs.reversed.ReversedEdgeSource.contains_node.Goals as goal

pub returns-clause-well_formed : goal.returns-clause-well_formed
returns-clause-well_formed g c =
    rw (← c.self.view_is) (reversed_well_formed _ g.Ix.IndexType.greatest c.contains_node.ensures.well_formed)
