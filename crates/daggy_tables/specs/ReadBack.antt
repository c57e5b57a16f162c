-- Tables that are written and read.
use Rattle.std.specs.Prelude.{◌≡◌, ℕ, Option, Some, IfSome, List, [], codes, unwrap_or, IsUtf8}
use Rattle.daggy_base.specs.Graph.{Graph, Edge, node_weight, edge_at}
use Rattle.daggy_formats.specs.Document.{document, node_row, edge_row}
use Rattle.daggy_tables.specs.Rows.{Field}

-- the text that a weight displays
abbrev pub shown : {W : Type 0} → (output : W → Option (List ℕ)) → W → Field
shown output w = unwrap_or (output w) []

-- an edge by its ends and the text that its weight displays
abbrev pub with_shown : {E : Type 0} → (output : E → Option (List ℕ)) → Edge E → Edge Field
with_shown output x = record { parent = x.parent; child = x.child; weight = shown output x.weight }

module _ {N E : Type 0} where
  -- each weight displays text, if it displays anything
  pub record DisplayText (of_node : N → Option (List ℕ)) (of_edge : E → Option (List ℕ)) (g : Graph N E) : Type 0 where
    pub nodes : (n : ℕ) (w : N) → node_weight g n ≡ Some w → IfSome (of_node w) IsUtf8
    pub edges : (e : ℕ) (x : Edge E) → edge_at g e ≡ Some x → IfSome (of_edge x.weight) IsUtf8

  -- what `node_table` writes of a graph
  abbrev pub IsNodeTable : (of_node : N → Option (List ℕ)) → (of_edge : E → Option (List ℕ)) → Graph N E → List ℕ → Type 0
  IsNodeTable of_node of_edge g text = document of_node of_edge (codes "node,weight\n") node_row (λ _ _ _. Some []) [] g ≡ Some text

  -- what `edge_table` writes of a graph
  abbrev pub IsEdgeTable : (of_node : N → Option (List ℕ)) → (of_edge : E → Option (List ℕ)) → Graph N E → List ℕ → Type 0
  IsEdgeTable of_node of_edge g text = document of_node of_edge (codes "parent,child,weight\n") (λ _ _. Some []) edge_row [] g ≡ Some text
