-- A graph with each edge reversed.
use Rattle.std.specs.Prelude.{map}
use Rattle.std.specs.Option.{option_map}
use Rattle.daggy_base.specs.Graph.{Graph, Edge}

-- an edge from its child to its parent
abbrev pub reversed_edge : {E : Type 0} → Edge E → Edge E
reversed_edge x = record { parent = x.child; child = x.parent; weight = x.weight }

-- a graph with each edge reversed: the same indices, and each node's two lists swapped
abbrev pub reversed : {N E : Type 0} → Graph N E → Graph N E
reversed g = record {
  nodes = g.nodes;
  edges = map (option_map reversed_edge) g.edges;
  out_lists = g.in_lists;
  in_lists = g.out_lists;
  vacant_nodes = g.vacant_nodes;
  vacant_edges = g.vacant_edges;
}
