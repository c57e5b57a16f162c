use Rattle.std.proofs.Common.{refl}
use Rattle.daggy_graph.proofs.KeptParts.{ListsDescend-filtered, HaveSameEnds-filtered}
use Rattle.daggy_graph.proofs.graph.DiGraph.filter_map_named.Goals as goal

pub filter_nodes-requires-clause-callable : goal.filter_nodes-requires-clause-callable
filter_nodes-requires-clause-callable g c =
    rw c.as_slice.ensures.value (rw (← c.self.view_is) at c.requires.nodes)

pub filter_edges-requires-clause-callable : goal.filter_edges-requires-clause-callable
filter_edges-requires-clause-callable g c =
    rw c.as_slice-2.ensures.value (rw (← c.self.view_is) at c.requires.edges)

pub returns-clause-filtered : goal.returns-clause-filtered
returns-clause-filtered g c =
    let nodes_are = rw c.as_slice.ensures.value at c.filter_nodes.ensures.filtered in
    let edges_are = rw c.as_slice-2.ensures.value at c.filter_edges.ensures.filtered in
    rw (← c.self.view_is) (record { names = _; middle = _; nodes = nodes_are; edges = edges_are }, refl)

pub returns-clause-descending : goal.returns-clause-descending
returns-clause-descending g c = ListsDescend-filtered (returns-clause-filtered g c).0

pub returns-clause-whole : goal.returns-clause-whole
returns-clause-whole g c = HaveSameEnds-filtered (returns-clause-filtered g c).0
