-- The text of a picture.
use Rattle.std.specs.Prelude.{◌≡◌, ℕ, List, [], ◌∷◌, ◌++◌, Bool, true, false, ◌&&◌, ◌||◌, if◌then◌else◌, ◌==◌, length, codes, decimal, Option, Some, None, is_some, IfSome, IsSome}
use Rattle.std.specs.Fmt.{◌++?◌}
use Rattle.std.specs.List.{list_any, flat_map}
use Rattle.daggy_base.specs.Graph.{Graph, Edge, node_weight}
use Rattle.daggy_formats.specs.Lines.{lines_of}
use Rattle.daggy_dot.specs.Escapes.{quoted}
use Rattle.daggy_dot.specs.declared.direction.RankDir.{RankDir}
use Rattle.daggy_dot.specs.declared.direction.RankDir.TheVariants.{TopToBottom, BottomToTop, LeftToRight, RightToLeft}

module _ {I : Type 0} (number : I → ℕ) where
  -- a path passes through n
  abbrev pub is_on : List I → ℕ → Bool
  is_on path n = list_any (λ m. number m == n) path

  -- a path begins with n
  abbrev pub begins_with : List I → ℕ → Bool
  begins_with [] n = false
  begins_with (m ∷ path) n = number m == n

  -- a path goes from a to b in one step
  abbrev pub goes : List I → ℕ → ℕ → Bool
  goes [] a b = false
  goes (m ∷ path) a b = (number m == a && begins_with path b) || goes path a b

-- the end of a line
abbrev pub end_of_line : Bool → List ℕ
end_of_line bold = if bold then codes "style = bold ]\n" else codes "]\n"

-- the line of a node with this label
abbrev pub node_line : ℕ → Option (List ℕ) → Bool → Option (List ℕ)
node_line n label bold = Some (codes "    " ++ (decimal n ++ codes " [ ")) ++? (label ++? Some (end_of_line bold))

-- the line of an edge with this label
abbrev pub edge_line : ℕ → ℕ → Option (List ℕ) → Bool → Option (List ℕ)
edge_line a b label bold =
    Some (codes "    " ++ (decimal a ++ (codes " -> " ++ (decimal b ++ codes " [ ")))) ++? (label ++? Some (end_of_line bold))

-- the nodes of a path, and its steps from one node to the next, in any order
pub record Marked : Type 0 where
  pub nodes : List ℕ
  pub steps : List (ℕ × ℕ)

-- a node is among the nodes
abbrev pub is_marked : Marked → ℕ → Bool
is_marked marks n = list_any (λ m. n == m) marks.nodes

-- a step from a to b is among the steps
abbrev pub is_step : Marked → ℕ → ℕ → Bool
is_step marks a b = list_any (λ s. a == s.0 && b == s.1) marks.steps

-- the marks of a path
pub record AreMarks {I : Type 0} (number : I → ℕ) (path : List I) (marks : Marked) : Type 0 where
  pub nodes : (n : ℕ) → is_marked marks n ≡ is_on number path n
  pub steps : (a b : ℕ) → is_step marks a b ≡ goes number path a b

-- the same of marks that there may be
abbrev pub AreMarksOf : {I : Type 0} (number : I → ℕ) (path : List I) → Option Marked → Type 0
AreMarksOf number path marks = IfSome marks (AreMarks number path) × IsSome marks

-- what is drawn: a graph, with a title, labels, boxes around nodes, a direction, nodes that share a rank, and a path in bold
pub record Drawing (N E L M K I : Type 0) : Type 0 where
  pub graph : Graph N E
  pub title : Option (List ℕ)
  pub node_labels : L
  pub edge_labels : M
  pub clusters : K
  pub has_clusters : Bool
  pub direction : RankDir
  pub stages : List (List I)
  pub marks : Option Marked

-- the same with other labels at the nodes
abbrev pub with_node_labels : {N E L L2 M K I : Type 0} → Drawing N E L M K I → L2 → Drawing N E L2 M K I
with_node_labels d labels =
    record {
      graph = d.graph;
      title = d.title;
      node_labels = labels;
      edge_labels = d.edge_labels;
      clusters = d.clusters;
      has_clusters = d.has_clusters;
      direction = d.direction;
      stages = d.stages;
      marks = d.marks;
    }

-- the same with other labels at the edges
abbrev pub with_edge_labels : {N E L M M2 K I : Type 0} → Drawing N E L M K I → M2 → Drawing N E L M2 K I
with_edge_labels d labels =
    record {
      graph = d.graph;
      title = d.title;
      node_labels = d.node_labels;
      edge_labels = labels;
      clusters = d.clusters;
      has_clusters = d.has_clusters;
      direction = d.direction;
      stages = d.stages;
      marks = d.marks;
    }

-- the same with boxes around nodes
abbrev pub with_clusters : {N E L M K K2 I : Type 0} → Drawing N E L M K I → K2 → Drawing N E L M K2 I
with_clusters d clusters =
    record {
      graph = d.graph;
      title = d.title;
      node_labels = d.node_labels;
      edge_labels = d.edge_labels;
      clusters = clusters;
      has_clusters = true;
      direction = d.direction;
      stages = d.stages;
      marks = d.marks;
    }

-- a drawing of a graph without a title, boxes, ranks and a path, from top to bottom
pub record IsPlain {N E L M K I : Type 0} (d : Drawing N E L M K I) (g : Graph N E) : Type 0 where
  pub graph : d.graph ≡ g
  pub title : d.title ≡ None
  pub clusters : d.has_clusters ≡ false
  pub downward : d.direction ≡ TopToBottom
  pub stages : d.stages ≡ []
  pub marks : d.marks ≡ None

-- the line of a direction
abbrev pub direction_line : RankDir → List ℕ
direction_line TopToBottom = []
direction_line BottomToTop = codes "    rankdir = BT\n"
direction_line LeftToRight = codes "    rankdir = LR\n"
direction_line RightToLeft = codes "    rankdir = RL\n"

-- the line of a title, above the picture
abbrev pub title_line : Option (List ℕ) → List ℕ
title_line None = []
title_line (Some title) = codes "    labelloc = t label = \"" ++ (quoted title ++ codes "\"\n")

-- the line that lets nodes of different boxes share a rank
abbrev pub rank_rule : Bool → List ℕ
rank_rule has_clusters = if has_clusters then codes "    newrank = true\n" else []

-- the first lines
abbrev pub header : {N E L M K I : Type 0} → Drawing N E L M K I → List ℕ
header d = codes "digraph {\n" ++ (direction_line d.direction ++ (rank_rule d.has_clusters ++ title_line d.title))

-- a node is drawn in bold
abbrev pub is_bold : Option Marked → ℕ → Bool
is_bold None n = false
is_bold (Some marks) n = is_marked marks n

-- an edge is drawn in bold
abbrev pub is_bold_edge : Option Marked → ℕ → ℕ → Bool
is_bold_edge None a b = false
is_bold_edge (Some marks) a b = is_step marks a b

module _ {N E I : Type 0} (number : I → ℕ) where
  -- a node on its rank, if it exists
  abbrev pub ranked : Graph N E → I → List ℕ
  ranked g n = if is_some (node_weight g (number n)) then decimal (number n) ++ codes "; " else []

  -- the line of the nodes on one rank
  abbrev pub rank_line : Graph N E → List I → List ℕ
  rank_line g stage = codes "    { rank = same; " ++ (flat_map (ranked g) stage ++ codes "}\n")

module _ {N E L M K I : Type 0} (of : ℕ → I) where
  -- the lines of the node n of weight w: its own, and the one of its box
  abbrev pub line_of_node : (L → I → N → Option (List ℕ)) → (K → I → N → Option (List ℕ)) → Drawing N E L M K I → ℕ → N
      → Option (List ℕ)
  line_of_node text cluster d n w =
      node_line n (text d.node_labels (of n) w) (is_bold d.marks n) ++? cluster d.clusters (of n) w

  -- the line of the edge e
  abbrev pub line_of_edge : (M → I → E → Option (List ℕ)) → Drawing N E L M K I → ℕ → Edge E → Option (List ℕ)
  line_of_edge text d e x =
      edge_line x.parent x.child (text d.edge_labels (of e) x.weight) (is_bold_edge d.marks x.parent x.child)

module _ {N E L M K I : Type 0} (number : I → ℕ) (of : ℕ → I) where
  -- the whole text: nodes, edges, ranks
  abbrev pub picture : (L → I → N → Option (List ℕ)) → (M → I → E → Option (List ℕ)) → (K → I → N → Option (List ℕ))
      → Drawing N E L M K I → Option (List ℕ)
  picture node_text edge_text cluster_text d =
      Some (header d)
      ++? (lines_of (line_of_node of node_text cluster_text d) d.graph.nodes (length d.graph.nodes)
      ++? (lines_of (line_of_edge of edge_text d) d.graph.edges (length d.graph.edges)
      ++? Some (flat_map (rank_line number d.graph) d.stages ++ codes "}\n")))
