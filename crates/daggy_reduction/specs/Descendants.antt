-- Descendants, and parts of an order.
use Rattle.std.specs.Prelude.{ℕ, ◌+◌, ◌≤◌, ◌↔◌, List, [], ◌∷◌, length, Contains}
use Rattle.std.specs.List.Sorted.{IsNonDecreasingBy}
use Rattle.daggy_base.specs.Graph.{Graph, in_list}
use Rattle.daggy_base.specs.Ordered.{place}
use Rattle.daggy_base.specs.Path.{AreJoined, Reaches}
use Rattle.daggy_base.specs.WellFormed.{AreDistinct}

-- an edge leads from one of the given nodes to n
abbrev pub IsChildOfAny : {N E : Type 0} → Graph N E → (given : List ℕ) → ℕ → Type 0
IsChildOfAny g given n = (a : ℕ) × Contains given a × AreJoined g a n

-- a path of one or more edges leads from a to n
abbrev pub IsDescendantOf : {N E : Type 0} → Graph N E → (a n : ℕ) → Type 0
IsDescendantOf g a n = (v : ℕ) × AreJoined g a v × Reaches g v n

-- such a path leads from one of the given nodes to n
abbrev pub IsDescendantOfAny : {N E : Type 0} → Graph N E → (given : List ℕ) → ℕ → Type 0
IsDescendantOfAny g given n = (a : ℕ) × Contains given a × IsDescendantOf g a n

-- the nodes of a part of an order, each once, by their positions in the order
pub record IsSortedPart (order : List ℕ) (Part : ℕ → Type 0) (nodes : List ℕ) : Type 0 where
  pub exact : (n : ℕ) → Contains nodes n ↔ Part n
  pub once : AreDistinct nodes
  pub sorted : IsNonDecreasingBy (place order) nodes

-- how many edges enter the nodes of a list
abbrev pub edges_into : {N E : Type 0} → Graph N E → List ℕ → ℕ
edges_into g [] = 0
edges_into g (n ∷ ns) = length (in_list g n) + edges_into g ns

-- a path of one or more edges leads from n to one of the given nodes
abbrev pub IsAncestorOfAny : {N E : Type 0} → Graph N E → (given : List ℕ) → ℕ → Type 0
IsAncestorOfAny g given n = (b : ℕ) × Contains given b × IsDescendantOf g n b

-- the nodes of a part of a graph, each once, and none after a node that it reaches
pub record IsOrderOfPart {N E : Type 0} (g : Graph N E) (Part : ℕ → Type 0) (nodes : List ℕ) : Type 0 where
  pub exact : (n : ℕ) → Contains nodes n ↔ Part n
  pub once : AreDistinct nodes
  pub sorted : (u v : ℕ) → Contains nodes u → Contains nodes v → Reaches g u v → place nodes u ≤ place nodes v
