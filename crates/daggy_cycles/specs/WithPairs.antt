-- Cycles that a graph would have with more edges, which are given by their endpoints.
use Rattle.std.specs.Prelude.{ℕ, ◌⊎◌, List, [], ◌∷◌, Contains}
use Rattle.daggy_base.specs.Graph.{Graph, HasNode}
use Rattle.daggy_base.specs.Path.{AreJoined, end_of}
use Rattle.daggy_base.specs.Adding.{NewEdge}
use Rattle.daggy_base.specs.WellFormed.{AreDistinct}

-- both nodes exist, and an edge of the graph leads from u to v, or the pair of them is given
pub record AreJoinedWith {N E : Type 0} (g : Graph N E) (pairs : List (ℕ × ℕ)) (u v : ℕ) : Type 0 where
  pub parent : HasNode g u
  pub child : HasNode g v
  pub joined : AreJoined g u v ⊎ Contains pairs (u, v)

-- each node is joined to the next
abbrev pub IsPathWith : {N E : Type 0} → Graph N E → (pairs : List (ℕ × ℕ)) → List ℕ → Type 0
IsPathWith g pairs [] = ⊥
IsPathWith g pairs (u ∷ []) = HasNode g u
IsPathWith g pairs (u ∷ v ∷ rest) = AreJoinedWith g pairs u v × IsPathWith g pairs (v ∷ rest)

-- a path with no node twice, and the last node joined to the first
abbrev pub IsCycleWith : {N E : Type 0} → Graph N E → (pairs : List (ℕ × ℕ)) → List ℕ → Type 0
IsCycleWith g pairs [] = ⊥
IsCycleWith g pairs (u ∷ rest) =
    IsPathWith g pairs (u ∷ rest) × AreDistinct (u ∷ rest) × AreJoinedWith g pairs (end_of u rest) u

-- the endpoints of an edge to be added
abbrev pub ends_of_new : {E : Type 0} → NewEdge E → ℕ × ℕ
ends_of_new x = (x.0, x.1)
