-- The texts of a graph in each format. `w` is what the weight of a node or an edge displays, if it displays anything.
use Rattle.std.specs.Prelude.{ℕ, List, ◌++◌, Option, Some, codes, decimal, length}
use Rattle.std.specs.Fmt.{◌++?◌}
use Rattle.std.specs.Option.{option_map}
use Rattle.daggy_base.specs.Graph.{Graph, Edge}
use Rattle.daggy_formats.specs.Escapes.{escaped, mermaid_char, csv_char, xml_char}
use Rattle.daggy_formats.specs.Lines.{lines_of}

-- a weight between what stands before and after it
abbrev pub between : (ℕ → List ℕ) → List ℕ → Option (List ℕ) → List ℕ → Option (List ℕ)
between char before w after = Some before ++? (option_map (escaped char) w ++? Some after)

-- the nodes of the flowchart that Mermaid draws
abbrev pub mermaid_node : ℕ → Option (List ℕ) → Option (List ℕ)
mermaid_node n w = between mermaid_char (codes "    " ++ (decimal n ++ codes "[\"")) w (codes "\"]\n")

-- its edges
abbrev pub mermaid_edge : ℕ → ℕ → Option (List ℕ) → Option (List ℕ)
mermaid_edge a b w =
    between mermaid_char (codes "    " ++ (decimal a ++ codes " -->|\"")) w (codes "\"| " ++ (decimal b ++ codes "\n"))

-- the row of a node
abbrev pub node_row : ℕ → Option (List ℕ) → Option (List ℕ)
node_row n w = between csv_char (decimal n ++ codes ",\"") w (codes "\"\n")

-- the row of an edge
abbrev pub edge_row : ℕ → ℕ → Option (List ℕ) → Option (List ℕ)
edge_row a b w = between csv_char (decimal a ++ (codes "," ++ (decimal b ++ codes ",\""))) w (codes "\"\n")

-- the tags before the weight of a node in GraphML
unfoldable pub node_tags : ℕ → List ℕ
node_tags n = codes "    <node id=\"n" ++ (decimal n ++ codes "\"><data key=\"weight\">")

-- the tags before the weight of an edge
unfoldable pub edge_tags : ℕ → ℕ → List ℕ
edge_tags a b =
    codes "    <edge source=\"n" ++ (decimal a ++ (codes "\" target=\"n" ++ (decimal b ++ codes "\"><data key=\"weight\">")))

-- the tags after the weight of a node
unfoldable pub node_end_tags : List ℕ
node_end_tags = codes "</data></node>\n"

-- the tags after the weight of an edge
unfoldable pub edge_end_tags : List ℕ
edge_end_tags = codes "</data></edge>\n"

-- the element of a node
abbrev pub node_element : ℕ → Option (List ℕ) → Option (List ℕ)
node_element n w = between xml_char (node_tags n) w node_end_tags

-- the element of an edge
abbrev pub edge_element : ℕ → ℕ → Option (List ℕ) → Option (List ℕ)
edge_element a b w = between xml_char (edge_tags a b) w edge_end_tags

-- what stands before the nodes in GraphML
abbrev pub graphml_header : List ℕ
graphml_header =
    codes "<?xml version=\"1.0\" encoding=\"UTF-8\"?>\n"
    ++ (codes "<graphml xmlns=\"http://graphml.graphdrawing.org/xmlns\">\n"
    ++ (codes "  <key id=\"weight\" for=\"all\" attr.name=\"weight\" attr.type=\"string\"/>\n"
    ++ codes "  <graph edgedefault=\"directed\">\n"))

-- what stands after the edges in GraphML
abbrev pub graphml_footer : List ℕ
graphml_footer = codes "  </graph>\n</graphml>\n"

module _ {N E : Type 0} where
  -- the lines of the nodes, by ascending index
  abbrev pub node_lines : (N → Option (List ℕ)) → (ℕ → Option (List ℕ) → Option (List ℕ)) → Graph N E → Option (List ℕ)
  node_lines output line g = lines_of (λ n w. line n (output w)) g.nodes (length g.nodes)

  -- the lines of the edges, by ascending index
  abbrev pub edge_lines : (E → Option (List ℕ)) → (ℕ → ℕ → Option (List ℕ) → Option (List ℕ)) → Graph N E → Option (List ℕ)
  edge_lines output line g = lines_of (λ e x. line x.parent x.child (output x.weight)) g.edges (length g.edges)

  -- a header, the lines of the nodes and of the edges, and a footer
  abbrev pub document : (N → Option (List ℕ)) → (E → Option (List ℕ)) → List ℕ → (ℕ → Option (List ℕ) → Option (List ℕ))
      → (ℕ → ℕ → Option (List ℕ) → Option (List ℕ)) → List ℕ → Graph N E → Option (List ℕ)
  document of_node of_edge header node edge footer g =
      Some header ++? (node_lines of_node node g ++? (edge_lines of_edge edge g ++? Some footer))
