use Rattle.daggy_graph.proofs.RawLemmas.{ShowsEdges-stored}
use Rattle.daggy_graph.proofs.graph.DiGraph.raw_edges.Goals as goal

pub returns : goal.returns
returns g c =
    rw (← c.self.view_is, c.as_slice.ensures.value) (ShowsEdges-stored _ _ _ c.self.invariant)
