-- The nodes in a queue, and the nodes that they reach.
use Rattle.std.specs.Prelude.{◌≡◌, ℕ, ◌↔◌, ◌⊎◌, Bool, true, false, List, [], ◌∷◌, ◌++◌, Contains, slice_index_or}
use Rattle.daggy_base.specs.Graph.{Graph, HasNode}
use Rattle.daggy_base.specs.Path.{AreJoined, Reaches}
use Rattle.daggy_base.specs.WellFormed.{AreDistinct}

-- the queue holds existing nodes, each once, and these are the marked nodes
pub record IsQueue {N E : Type 0} (g : Graph N E) (marks : List Bool) (queue : List ℕ) : Type 0 where
  pub exist : (n : ℕ) → Contains queue n → HasNode g n
  pub once : AreDistinct queue
  pub marked : (n : ℕ) → (slice_index_or marks n false ≡ true) ↔ Contains queue n

-- the nodes that those of `first` reach, each once; the list begins with those of `first`
pub record IsClosure {N E : Type 0} (g : Graph N E) (first closure : List ℕ) : Type 0 where
  pub exact : (n : ℕ) → Contains closure n ↔ ((s : ℕ) × Contains first s × Reaches g s n)
  pub once : AreDistinct closure
  pub later : List ℕ
  pub begins : closure ≡ first ++ later

-- a list without its first element
abbrev pub behind : List ℕ → List ℕ
behind [] = []
behind (x ∷ xs) = xs

-- n is a child of a node in the queue other than the first
abbrev pub IsChildBehind : {N E : Type 0} → Graph N E → List ℕ → ℕ → Type 0
IsChildBehind g queue n = (m : ℕ) × Contains (behind queue) m × AreJoined g m n

-- those children are marked too, and nothing else
abbrev pub MeetsChildren : {N E : Type 0} → Graph N E → List ℕ → (old new : List Bool) → Type 0
MeetsChildren g queue old new =
    (n : ℕ) → (slice_index_or new n false ≡ true) ↔ ((slice_index_or old n false ≡ true) ⊎ IsChildBehind g queue n)
