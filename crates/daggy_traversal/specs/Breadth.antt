-- Walks breadth first.
use Rattle.std.specs.Prelude.{◌≡◌, ℕ, ◌≤◌, ◌+◌, true, Option, IfNone, IfSome, List, [], ◌∷◌, ◌++◌, Contains}
use Rattle.std.specs.Prelude.{if◌then◌else◌}
use Rattle.daggy_base.specs.declared.index.Direction.{Direction}
use Rattle.daggy_base.specs.Graph.{Graph, node_bound}
use Rattle.daggy_traversal.specs.Traversal.{IsAway, IsStep, neighbors_of, is_among, are_found, first_new}
use Rattle.daggy_traversal.specs.Traversal.{begin}

-- A walk breadth first: the node that it starts from; its direction; the nodes that were yielded, in order; the nodes
-- that were met and not yielded yet, the next one first; and a bound of the indices that it has room for.
pub record Breadth : Type 0 where
  pub start : ℕ
  pub dir : Direction
  pub given : List ℕ
  pub waiting : List ℕ
  pub bound : ℕ

-- The node that comes next: the first node that was not yielded among the start and the neighbors of the yielded nodes,
-- in the order in which those were yielded.
abbrev pub next_in_breadth : {N E : Type 0} → Graph N E → Direction → (start : ℕ) (given : List ℕ) → Option ℕ
next_in_breadth g dir start given = first_new given (begin g start ++ neighbors_of dir g given)

-- the numbers of a list that are not among others, each once, where it occurs first
abbrev pub fresh : (old : List ℕ) → List ℕ → List ℕ
fresh old [] = []
fresh old (x ∷ xs) = if is_among old x then fresh old xs else x ∷ fresh (old ++ x ∷ []) xs

-- for each path from the start to n there is a path to m with at most `more` more edges
abbrev pub IsWithin : {N E : Type 0} → Graph N E → Direction → (start more m n : ℕ) → Type 0
IsWithin g dir start more m n =
    (edges : ℕ) → IsAway dir g start n edges → (fewer : ℕ) × IsAway dir g start m fewer × (fewer ≤ edges + more)

-- A walk over this graph. The nodes that were yielded or wait, each once, are the start and the neighbors of the nodes
-- that were yielded, in the order in which they are met.
pub record IsBreadthFirst {N E : Type 0} (g : Graph N E) (walk : Breadth) : Type 0 where
  pub met : walk.given ++ walk.waiting ≡ fresh [] (begin g walk.start ++ neighbors_of walk.dir g walk.given)
  pub found : are_found walk.dir g walk.start [] walk.given ≡ true
  pub room : node_bound g ≤ walk.bound

-- A step of a walk yields the next node, and no node yielded before is farther from the start. If it yields nothing,
-- the walk is unchanged.
pub record IsBreadthStep {N E : Type 0} (g : Graph N E) (walk : Breadth) (node : Option ℕ) (walk' : Breadth)
    : Type 0 where
  pub step : IsStep walk.dir g walk.start walk.given node walk'.given
  pub next : node ≡ next_in_breadth g walk.dir walk.start walk.given
  pub distance : IfSome node (λ n. (m : ℕ) → Contains walk.given m → IsWithin g walk.dir walk.start 0 m n)
  pub unchanged : IfNone node (walk' ≡ walk)
  pub start : walk'.start ≡ walk.start
  pub dir : walk'.dir ≡ walk.dir
