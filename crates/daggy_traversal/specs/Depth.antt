-- Walks depth first.
use Rattle.std.specs.Prelude.{◌≡◌, ℕ, ◌≤◌, Bool, true, Option, List, [], ◌∷◌, ◌++◌, length, if◌then◌else◌}
use Rattle.daggy_base.specs.declared.index.Direction.{Direction}
use Rattle.daggy_base.specs.Graph.{Graph, HasNode, node_bound}
use Rattle.daggy_traversal.specs.Traversal.{neighbors, neighbors_left, without_old, first_new, begin, are_distinct}
use Rattle.daggy_traversal.specs.Traversal.{are_found, IsStep}

-- A walk depth first: the node that it starts from; its direction; the nodes that were yielded, in order; whether the
-- start is still to come; for each node on the path to the node yielded last, the edge to read next; and a bound of the
-- indices that it has room for.
pub record Depth : Type 0 where
  pub start : ℕ
  pub dir : Direction
  pub given : List ℕ
  pub waits : Bool
  pub cursors : List ℕ
  pub bound : ℕ

-- the neighbors of the nodes of a list, the neighbors of its last node first
abbrev pub neighbors_back : {N E : Type 0} → Direction → Graph N E → List ℕ → List ℕ
neighbors_back dir g [] = []
neighbors_back dir g (n ∷ ns) = neighbors_back dir g ns ++ neighbors dir g n

-- The node that comes next: the first node that was not yielded among the neighbors of the yielded nodes, the neighbors
-- of the node yielded last first, and then the start.
abbrev pub next_in_depth : {N E : Type 0} → Graph N E → Direction → (start : ℕ) (given : List ℕ) → Option ℕ
next_in_depth g dir start given = first_new given (neighbors_back dir g given ++ begin g start)

-- the neighbors that are left at some cursors, the neighbors at the last cursor first
abbrev pub ahead : {N E : Type 0} → Direction → Graph N E → (cursors : List ℕ) → List ℕ
ahead dir g [] = []
ahead dir g (e ∷ es) = ahead dir g es ++ neighbors_left dir g e

-- A walk over this graph. The neighbors that are left at the cursors are all neighbors of the yielded nodes that were
-- not yielded.
pub record IsDepthFirst {N E : Type 0} (g : Graph N E) (walk : Depth) : Type 0 where
  pub left : without_old walk.given (ahead walk.dir g walk.cursors ++ (if walk.waits then walk.start ∷ [] else []))
      ≡ without_old walk.given (neighbors_back walk.dir g walk.given ++ begin g walk.start)
  pub once : are_distinct walk.given ≡ true
  pub found : are_found walk.dir g walk.start [] walk.given ≡ true
  pub first : walk.waits ≡ true → HasNode g walk.start × (walk.given ≡ []) × (walk.cursors ≡ [])
  pub few : length walk.cursors ≤ length walk.given
  pub room : node_bound g ≤ walk.bound

-- a step of a walk yields the next node
pub record IsDepthStep {N E : Type 0} (g : Graph N E) (walk : Depth) (node : Option ℕ) (walk' : Depth) : Type 0 where
  pub step : IsStep walk.dir g walk.start walk.given node walk'.given
  pub next : node ≡ next_in_depth g walk.dir walk.start walk.given
  pub start : walk'.start ≡ walk.start
  pub dir : walk'.dir ≡ walk.dir
