use Rattle.std.proofs.Common.{sym, ◌∙◌}
use Rattle.daggy_search.specs.Reversed.{reversed_edge}
use Rattle.daggy_search.proofs.ReversedGraph.{bound_of-map}
use Rattle.daggy_search.proofs.reversed.ReversedEdgeSource.edge_bound.Goals as goal

pub returns : goal.returns
returns g c = rw (← c.self.view_is) (c.edge_bound.ensures ∙ sym (bound_of-map (reversed_edge {E = g.row.S-EdgeWeight.Denot}) (g.S.EdgeSource.graph c.self.inside.store.now).edges))
