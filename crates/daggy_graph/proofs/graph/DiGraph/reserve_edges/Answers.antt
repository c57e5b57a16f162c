use Rattle.daggy_graph.proofs.graph.DiGraph.reserve_edges.Goals as goal

pub invariant_of-self : goal.invariant_of-self
invariant_of-self g c = rw c.reserve.ensures.items c.self.invariant

pub returns-clause-same : goal.returns-clause-same
returns-clause-same g c = rw c.reserve.ensures.items c.self.view_is
