-- Weakly connected components.
use Rattle.std.specs.Prelude.{◌≡◌, ◌≢◌, ℕ, ◌<◌, ◌↔◌, ◌⊎◌, List, [], ◌∷◌, length, Contains}
use Rattle.std.specs.List.{concat}
use Rattle.daggy_base.specs.Graph.{Graph, HasNode}
use Rattle.daggy_base.specs.Path.{AreJoined, end_of}
use Rattle.daggy_base.specs.WellFormed.{AreDistinct}
use Rattle.daggy_components.specs.Components.{component}

-- an edge leads from one of them to the other
abbrev pub AreNeighbors : {N E : Type 0} → Graph N E → ℕ → ℕ → Type 0
AreNeighbors g u v = AreJoined g u v ⊎ AreJoined g v u

-- a chain: a nonempty list of nodes, each a neighbor of the next
abbrev pub IsChain : {N E : Type 0} → Graph N E → List ℕ → Type 0
IsChain g [] = ⊥
IsChain g (u ∷ []) = HasNode g u
IsChain g (u ∷ v ∷ rest) = HasNode g u × AreNeighbors g u v × IsChain g (v ∷ rest)

-- a chain leads from u to v: they are connected if the directions of the edges do not matter
abbrev pub AreConnected : {N E : Type 0} → Graph N E → ℕ → ℕ → Type 0
AreConnected g u v = (rest : List ℕ) × IsChain g (u ∷ rest) × (end_of u rest ≡ v)

-- the weakly connected components of a graph: the classes of nodes that are connected, each node in exactly one
pub record AreWeakComponents {N E : Type 0} (g : Graph N E) (cs : List (List ℕ)) : Type 0 where
  pub exact : (n : ℕ) → Contains (concat cs) n ↔ HasNode g n
  pub once : AreDistinct (concat cs)
  pub some : (k : ℕ) → k < length cs → component cs k ≢ []
  pub class : (k u v : ℕ) → Contains (component cs k) u → Contains (component cs k) v ↔ AreConnected g u v
