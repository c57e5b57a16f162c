-- A queue of nodes, in which each but the first was met as a child of an earlier one.
use Rattle.std.specs.Prelude.{◌≡◌, ◌≢◌, ℕ, ◌+◌, ◌<◌, ◌≤◌, ◌⊎◌, List, [], ◌∷◌, length, map, slice_index, slice_index_or}
use Rattle.std.specs.Prelude.{Contains}
use Rattle.daggy_base.specs.Graph.{Graph, HasNode, node_bound}
use Rattle.daggy_base.specs.Path.{AreJoined, end_of}
use Rattle.daggy_base.specs.WellFormed.{AreDistinct}

-- the place of the node from which the node at the place i was met
abbrev pub place_before : (end : ℕ) (places nodes : List ℕ) → ℕ → ℕ
place_before end places nodes i = slice_index_or places (slice_index nodes i) end

-- The node at the place i was met as a child of an earlier one, which is one step nearer to the first.
pub record IsMetFrom {N E : Type 0} (end : ℕ) (g : Graph N E) (places nodes depths : List ℕ) (i : ℕ) : Type 0 where
  pub earlier : place_before end places nodes i < i
  pub joined : AreJoined g (slice_index nodes (place_before end places nodes i)) (slice_index nodes i)
  pub deeper : slice_index depths i ≡ slice_index depths (place_before end places nodes i) + 1

-- a node of the queue, at most so many steps from the first
pub record IsNear (nodes depths : List ℕ) (v depth : ℕ) : Type 0 where
  pub place : ℕ
  pub within : place < length nodes
  pub is : slice_index nodes place ≡ v
  pub near : slice_index depths place ≤ depth

-- The children of the nodes before the head of the queue are in it, and the first node is none of them. A node that is in
-- it has a place: that of the node from which it was met.
pub record IsQueue {N E : Type 0} (end : ℕ) (g : Graph N E) (start : ℕ) (places nodes depths : List ℕ) (head : ℕ)
    : Type 0 where
  pub sized : length places ≡ node_bound g
  pub low : node_bound g ≤ end
  pub some : 0 < length nodes
  pub begins : slice_index nodes 0 ≡ start
  pub as_many : length depths ≡ length nodes
  pub once : AreDistinct nodes
  pub real : (v : ℕ) → Contains nodes v → HasNode g v
  pub met : (v : ℕ) → Contains nodes v → slice_index_or places v end ≢ end
  pub unmet : (v : ℕ) → v < node_bound g → (slice_index_or places v end ≡ end) ⊎ Contains nodes v
  pub zero : slice_index depths 0 ≡ 0
  pub from : (i : ℕ) → 0 < i → i < length nodes → IsMetFrom end g places nodes depths i
  pub rises : (i j : ℕ) → i ≤ j → j < length nodes → slice_index depths i ≤ slice_index depths j
  pub near : (i : ℕ) → i < length nodes → head < length nodes → slice_index depths i ≤ slice_index depths head + 1
  pub children : (i v : ℕ) → i < head → i < length nodes → AreJoined g (slice_index nodes i) v
      → (v ≢ start) × IsNear nodes depths v (slice_index depths i + 1)

-- each place but the first is later than 0, and was met from the one before it
abbrev pub IsTrail : (before : ℕ → ℕ) → List ℕ → Type 0
IsTrail before [] = Unit {0}
IsTrail before (i ∷ []) = Unit {0}
IsTrail before (i ∷ j ∷ rest) = (0 < j) × (before j ≡ i) × IsTrail before (j ∷ rest)

-- the nodes from the first of the queue to the one at a place, each met from the one before it
pub record IsWayTo (end : ℕ) (places nodes : List ℕ) (at : ℕ) (way : List ℕ) : Type 0 where
  pub rest : List ℕ
  pub are : way ≡ map (slice_index nodes) (0 ∷ rest)
  pub trail : IsTrail (place_before end places nodes) (0 ∷ rest)
  pub last : end_of 0 rest ≡ at
