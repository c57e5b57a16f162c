-- Plans: nodes in stages, each node in a later stage than its parents.
use Rattle.std.specs.Prelude.{◌≡◌, ◌≢◌, ℕ, ◌<◌, ◌≤◌, ◌+◌, ◌↔◌, ◌⊎◌, List, [], ◌∷◌, length, map, Contains}
use Rattle.std.specs.Prelude.{slice_index_or, Vec}
use Rattle.std.specs.declared.alloc.Global.{Global}
use Rattle.daggy_base.specs.Graph.{Graph, HasNode}
use Rattle.daggy_base.specs.Path.{AreJoined, IsPath, end_of}
use Rattle.daggy_base.specs.WellFormed.{AreDistinct}

-- stages by the numbers of their nodes
abbrev pub stages_of : {I : Type 0} → (number : I → ℕ) → List (Vec I Global) → List (List ℕ)
stages_of number stages = map (λ stage. map number stage.items) stages

-- the node is in that stage, counted from 0
abbrev pub StandsIn : List (List ℕ) → ℕ → ℕ → Type 0
StandsIn stages k n = Contains (slice_index_or stages k []) n

-- each element is less than the next one
abbrev pub IsAscending : List ℕ → Type 0
IsAscending [] = Unit {0}
IsAscending (n ∷ []) = Unit {0}
IsAscending (n ∷ m ∷ ns) = (n < m) × IsAscending (m ∷ ns)

-- each existing node occurs once, in a later stage than its parents
pub record IsPlan {N E : Type 0} (g : Graph N E) (stages : List (List ℕ)) : Type 0 where
  pub exact : (n : ℕ) → HasNode g n ↔ ((k : ℕ) × StandsIn stages k n)
  pub once : (n j k : ℕ) → StandsIn stages j n → StandsIn stages k n → j ≡ k
  pub distinct : (k : ℕ) → AreDistinct (slice_index_or stages k [])
  pub later : (u v j k : ℕ) → AreJoined g u v → StandsIn stages j u → StandsIn stages k v → j < k

-- the level of a node: the number of edges of the longest path that ends with it
pub record IsLevel {N E : Type 0} (g : Graph N E) (n level : ℕ) : Type 0 where
  pub reached : (u : ℕ) × (rest : List ℕ) × IsPath g (u ∷ rest) × (end_of u rest ≡ n) × (length rest ≡ level)
  pub longest : (u : ℕ) (rest : List ℕ) → IsPath g (u ∷ rest) → end_of u rest ≡ n → length rest ≤ level

-- each node is in the stage of its level, no stage is empty, and indices ascend within a stage
pub record IsByLevels {N E : Type 0} (g : Graph N E) (stages : List (List ℕ)) : Type 0 where
  pub levels : (n k : ℕ) → StandsIn stages k n → IsLevel g n k
  pub full : (k : ℕ) → k < length stages → slice_index_or stages k [] ≢ []
  pub ascending : (k : ℕ) → IsAscending (slice_index_or stages k [])

-- the lowest node of which this holds
pub record IsLowest (holds : ℕ → Type 0) (n : ℕ) : Type 0 where
  pub here : holds n
  pub least : (m : ℕ) → holds m → n ≤ m

-- A path with a node in each stage, or nothing if there is no stage. It ends with the lowest node of the last stage, and
-- each node follows the lowest of its parents in the stage just before.
pub record IsChain {N E : Type 0} (g : Graph N E) (stages : List (List ℕ)) (chain : List ℕ) : Type 0 where
  pub as_long : length chain ≡ length stages
  pub path : (chain ≡ []) ⊎ IsPath g chain
  pub last : (k : ℕ) → k + 1 ≡ length stages → IsLowest (StandsIn stages k) (slice_index_or chain k 0)
  pub parents : (k : ℕ) → k + 1 < length stages
      → IsLowest (λ n. StandsIn stages k n × AreJoined g n (slice_index_or chain (k + 1) 0)) (slice_index_or chain k 0)

-- no plan has fewer stages
abbrev pub IsShortest : {N E : Type 0} → Graph N E → List (List ℕ) → Type 0
IsShortest g stages = (others : List (List ℕ)) → IsPlan g others → length stages ≤ length others
