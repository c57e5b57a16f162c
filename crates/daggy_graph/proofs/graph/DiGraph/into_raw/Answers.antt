use Rattle.daggy_graph.proofs.RawLemmas.{ShowsNodes-stored, ShowsEdges-stored}
use Rattle.daggy_graph.proofs.graph.DiGraph.into_raw.Goals as goal

pub returns-clause-nodes : goal.returns-clause-nodes
returns-clause-nodes g c = rw (← c.self.view_is) (ShowsNodes-stored _ _ _ c.self.invariant)

pub returns-clause-edges : goal.returns-clause-edges
returns-clause-edges g c = rw (← c.self.view_is) (ShowsEdges-stored _ _ _ c.self.invariant)
