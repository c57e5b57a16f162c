use Rattle.daggy_graph.proofs.graph.DiGraph.shrink_to_fit_edges.Goals as goal

pub invariant_of-self : goal.invariant_of-self
invariant_of-self g c = rw c.shrink_to_fit.ensures.items c.self.invariant

pub returns-then-capacity-len : goal.returns-then-capacity-len
returns-then-capacity-len g c = rw c.shrink_to_fit.ensures.items c.self.view_is

pub invariant_of-self-2 : goal.invariant_of-self-2
invariant_of-self-2 g c = rw c.shrink_to_fit.ensures.items c.self.invariant

pub returns : goal.returns
returns g c = rw c.shrink_to_fit.ensures.items c.self.view_is
