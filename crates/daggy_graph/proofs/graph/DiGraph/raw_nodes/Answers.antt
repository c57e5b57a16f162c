use Rattle.daggy_graph.proofs.RawLemmas.{ShowsNodes-stored}
use Rattle.daggy_graph.proofs.graph.DiGraph.raw_nodes.Goals as goal

pub returns : goal.returns
returns g c =
    rw (← c.self.view_is, c.as_slice.ensures.value) (ShowsNodes-stored _ _ _ c.self.invariant)
