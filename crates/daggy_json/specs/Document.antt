-- The document of a graph.
use Rattle.std.specs.Prelude.{◌≡◌, ℕ, ◌+◌, ◌⊎◌, Option, Some, None, List, [], ◌∷◌, map, take, codes}
use Rattle.std.specs.List.{AllZip}
use Rattle.serde_json.specs.Data.{Data, null, number, unsigned, string, array, object, no_members, member}
use Rattle.serde_json.specs.View.{items_of}
use Rattle.daggy_base.specs.Graph.{Graph, Edge, out_list, in_list, node_bound, edge_bound}
use Rattle.daggy_base.specs.Iterating.{node_identifiers, node_weights}
use Rattle.daggy_base.specs.Filtering.{ListsDescend}

-- a whole number, an array, and an array of whole numbers
abbrev pub whole : ℕ → Data
whole n = number (unsigned n)

-- an array
abbrev pub listed : List Data → Data
listed ds = array (items_of ds)

-- an array of whole numbers
abbrev pub wholes : List ℕ → Data
wholes ns = listed (map whole ns)

-- the indices of the vacant slots, ascending; the first slot has the index i
abbrev pub vacant_from : {A : Type 0} → ℕ → List (Option A) → List ℕ
vacant_from i [] = []
vacant_from i (None ∷ xs) = i ∷ vacant_from (i + 1) xs
vacant_from i (Some x ∷ xs) = vacant_from (i + 1) xs

-- the vacant node indices below the bound
abbrev pub holes_of : {N E : Type 0} → Graph N E → List ℕ
holes_of g = vacant_from 0 (take (node_bound g) g.nodes)

-- the out list and the in list of a node
abbrev pub row_of : {N E : Type 0} → Graph N E → ℕ → Data
row_of g n = listed (wholes (out_list g n) ∷ wholes (in_list g n) ∷ [])

-- the entry of an edge slot: null if it is vacant, otherwise the parent, the child and the encoded weight
abbrev pub IsEntry : {E : Type 0} → (edge_as : E → Data → Type 0) → Option (Edge E) → Data → Type 0
IsEntry edge_as None d = d ≡ null
IsEntry edge_as (Some x) d = (w : Data) × edge_as x.weight w × (d ≡ listed (whole x.parent ∷ whole x.child ∷ w ∷ []))

-- the object with these members, in alphabetical order
abbrev pub document_of : (entries holes weights orders : List Data) → Data
document_of entries holes weights orders =
    object (member (codes "edge_property") (string (codes "directed")) (member (codes "edges") (listed entries)
    (member (codes "node_holes") (listed holes)
    (member (codes "nodes") (listed weights) (member (codes "orders") (listed orders) no_members)))))

-- The value is the document of the graph: its edge slots and the weights of its nodes in ascending index order, the
-- vacant slots up to the greatest index in use, and the lists of each existing node, in ascending order. node_as and
-- edge_as say how a weight is encoded.
pub record IsDocumentOf {N E : Type 0} (node_as : N → Data → Type 0) (edge_as : E → Data → Type 0) (g : Graph N E)
    (d : Data) : Type 0 where
  pub entries : List Data
  pub weights : List Data
  pub edges : AllZip (IsEntry edge_as) (take (edge_bound g) g.edges) entries
  pub nodes : AllZip node_as (node_weights g) weights
  pub is : d ≡ document_of entries (map whole (holes_of g)) weights (map (row_of g) (node_identifiers g))

-- the same object without `orders`
abbrev pub document_without_orders : (entries holes weights : List Data) → Data
document_without_orders entries holes weights =
    object (member (codes "edge_property") (string (codes "directed")) (member (codes "edges") (listed entries)
    (member (codes "node_holes") (listed holes) (member (codes "nodes") (listed weights) no_members))))

-- The value is the document of the graph without the lists of its nodes.
pub record IsDocumentWithoutOrders {N E : Type 0} (node_as : N → Data → Type 0) (edge_as : E → Data → Type 0)
    (g : Graph N E) (d : Data) : Type 0 where
  pub entries : List Data
  pub weights : List Data
  pub edges : AllZip (IsEntry edge_as) (take (edge_bound g) g.edges) entries
  pub nodes : AllZip node_as (node_weights g) weights
  pub is : d ≡ document_without_orders entries (map whole (holes_of g)) weights

-- The value is the short document of the graph: if each list is in descending index order, the document without
-- `orders`, otherwise the document.
abbrev pub IsShortDocumentOf : {N E : Type 0}
    → (node_as : N → Data → Type 0) → (edge_as : E → Data → Type 0) → Graph N E → Data → Type 0
IsShortDocumentOf node_as edge_as g d =
    (ListsDescend g × IsDocumentWithoutOrders node_as edge_as g d)
    ⊎ (¬ ListsDescend g × IsDocumentOf node_as edge_as g d)
