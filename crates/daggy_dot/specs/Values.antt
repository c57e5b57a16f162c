-- What closures return for the nodes and edges of a graph, and what is written of it.
use Rattle.std.specs.Prelude.{◌≡◌, ℕ, ◌++◌, List, [], Option, Some, None, codes, decimal}
use Rattle.std.specs.Borrow.{Bor}
use Rattle.std.specs.Fmt.{◌++?◌}
use Rattle.std.specs.Option.{option_map}
use Rattle.daggy_base.specs.Graph.{Graph, node_weight, slot}
use Rattle.daggy_base.specs.Weights.{edge_weight}
use Rattle.daggy_dot.specs.Escapes.{quoted, label_of, attribute_of}

module _ {N E F I : Type 0} (of : ℕ → I) where
  -- f may be called with the index of each existing node and a `&` to its weight
  abbrev pub CanCallAtEachNode : (pre : F → I → Bor N → Type 0) → F → Graph N E → Type 0
  CanCallAtEachNode pre f g =
      (n : ℕ) (w : N) → node_weight g n ≡ Some w → (shown : Bor N) → shown.now ≡ w → pre f (of n) shown

  -- f may be called with the index of each existing edge and a `&` to its weight
  abbrev pub CanCallAtEachEdge : (pre : F → I → Bor E → Type 0) → F → Graph N E → Type 0
  CanCallAtEachEdge pre f g =
      (e : ℕ) (w : E) → edge_weight g e ≡ Some w → (shown : Bor E) → shown.now ≡ w → pre f (of e) shown

  -- if the node n exists, the value is one that f returned for it
  abbrev pub IsNodeValue : {D : Type 0} (post : F → I → Bor N → Option D → Type 0) → F → Graph N E → ℕ → Option D → Type 0
  IsNodeValue post f g n value =
      (w : N) → node_weight g n ≡ Some w → (shown : Bor N) × (shown.now ≡ w) × post f (of n) shown value

  -- the value of each existing node is one that f returned for it
  abbrev pub AreNodeValues : {D : Type 0} (post : F → I → Bor N → Option D → Type 0) → F → Graph N E → List (Option D) → Type 0
  AreNodeValues post f g values = (n : ℕ) → IsNodeValue post f g n (slot values n)

  -- if the edge e exists, the value is one that f returned for it
  abbrev pub IsEdgeValue : {D : Type 0} (post : F → I → Bor E → Option D → Type 0) → F → Graph N E → ℕ → Option D → Type 0
  IsEdgeValue post f g e value =
      (w : E) → edge_weight g e ≡ Some w → (shown : Bor E) × (shown.now ≡ w) × post f (of e) shown value

  -- the value of each existing edge is one that f returned for it
  abbrev pub AreEdgeValues : {D : Type 0} (post : F → I → Bor E → Option D → Type 0) → F → Graph N E → List (Option D) → Type 0
  AreEdgeValues post f g values = (e : ℕ) → IsEdgeValue post f g e (slot values e)

-- the values of an attribute, by index
pub record Named (D : Type 0) : Type 0 where
  pub name : List ℕ
  pub values : List (Option D)

module _ {D : Type 0} (output : D → Option (List ℕ)) where
  -- the attribute of a value, or nothing
  abbrev pub named_value : List ℕ → Option D → Option (List ℕ)
  named_value name None = Some []
  named_value name (Some d) = attribute_of name (output d)

  -- the attribute at an index
  abbrev pub named_at : Named D → ℕ → Option (List ℕ)
  named_at a x = named_value a.name (slot a.values x)

-- a node in a box whose name is in o
abbrev pub cluster_of : ℕ → Option (List ℕ) → Option (List ℕ)
cluster_of n o =
    Some (codes "    subgraph \"cluster_")
    ++? (option_map quoted o ++? (Some (codes "\" { ") ++? (label_of o ++? Some (decimal n ++ codes " }\n"))))

module _ {D : Type 0} (output : D → Option (List ℕ)) where
  -- a node in its box, if it has one
  abbrev pub in_cluster : ℕ → Option D → Option (List ℕ)
  in_cluster n None = Some []
  in_cluster n (Some d) = cluster_of n (output d)

  -- the node n in its box, if it has one
  abbrev pub cluster_at : List (Option D) → ℕ → Option (List ℕ)
  cluster_at names n = in_cluster n (slot names n)
