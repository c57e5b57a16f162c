use Rattle.daggy_graph.proofs.graph.DiGraph.filter_map.Goals as goal

pub returns-clause-filtered : goal.returns-clause-filtered
returns-clause-filtered g c = c.in_ok-graph.ensures.filtered.0
