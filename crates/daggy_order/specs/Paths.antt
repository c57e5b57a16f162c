-- Paths from one node to another, and the parents that a search notes.
use Rattle.std.specs.Prelude.{◌≡◌, ◌≢◌, ℕ, ◌+◌, ◌<◌, ◌≤◌, Bool, true, false, List, ◌∷◌, length, slice_index, slice_index_or}
use Rattle.daggy_base.specs.Graph.{Graph}
use Rattle.daggy_base.specs.Path.{AreJoined, IsPath, end_of}

-- a path whose first node is a and whose last node is b
pub record IsPathBetween {N E : Type 0} (g : Graph N E) (a b : ℕ) (path : List ℕ) : Type 0 where
  pub rest : List ℕ
  pub begins : path ≡ a ∷ rest
  pub joined : IsPath g (a ∷ rest)
  pub ends : end_of a rest ≡ b

-- a path from a to b, and each path from a to b has at least as many nodes
pub record IsShortestPath {N E : Type 0} (g : Graph N E) (a b : ℕ) (path : List ℕ) : Type 0 where
  pub between : IsPathBetween g a b path
  pub fewest : (other : List ℕ) → IsPathBetween g a b other → length path ≤ length other

-- the node was entered
abbrev pub IsEntered : (entered : List Bool) → ℕ → Type 0
IsEntered entered n = slice_index_or entered n false ≡ true

-- an edge leads from p, which was entered, to n, which is one level below it
pub record IsParent {N E : Type 0} (g : Graph N E) (entered : List Bool) (level : ℕ → ℕ) (p n : ℕ) : Type 0 where
  pub joined : AreJoined g p n
  pub met : IsEntered entered p
  pub below : level n ≡ level p + 1

-- a is on level 0, and for each other entered node a parent is noted
pub record AreParents {N E : Type 0} (g : Graph N E) (a : ℕ) (entered : List Bool) (parents : List ℕ) (level : ℕ → ℕ)
    : Type 0 where
  pub top : level a ≡ 0
  pub noted : (n : ℕ) → IsEntered entered n → n ≢ a → IsParent g entered level (slice_index parents n) n

-- b was entered, and each path from a to b has more nodes than b's level; so the path along the noted parents is a
-- shortest one
pub record LeadsBack {N E : Type 0} (g : Graph N E) (a b : ℕ) (entered : List Bool) (parents : List ℕ) : Type 0 where
  pub level : ℕ → ℕ
  pub noted : AreParents g a entered parents level
  pub found : IsEntered entered b
  pub fewest : (other : List ℕ) → IsPathBetween g a b other → level b < length other
