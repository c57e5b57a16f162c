-- The edges of a node, oldest first, and walks depth first that follow them in this order.
use Rattle.std.specs.Prelude.{◌≡◌, ℕ, suc, ◌≤◌, true, Option, List, [], ◌∷◌, ◌++◌, length, map, reverse}
use Rattle.daggy_base.specs.declared.index.Direction.{Direction}
use Rattle.daggy_base.specs.Graph.{Graph, HasNode, node_bound, edge_at, list_at}
use Rattle.daggy_traversal.specs.Traversal.{neighbors, far_or, without_old, first_new, begin, is_among, are_distinct}
use Rattle.daggy_traversal.specs.Traversal.{are_found, IsStep}

-- the edges of a node, each with the node that it leads to, in the order of the list
abbrev pub steps : {N E : Type 0} → Direction → Graph N E → ℕ → List (ℕ × ℕ)
steps dir g n = map (λ e. (e, far_or dir (edge_at g e))) (list_at dir g n)

-- the edges of the nodes of a list, one node after another
abbrev pub edges_of : {N E : Type 0} → Direction → Graph N E → List ℕ → List ℕ
edges_of dir g [] = []
edges_of dir g (n ∷ ns) = list_at dir g n ++ edges_of dir g ns

-- the neighbors of the nodes of a list, the neighbors of its last node first, and those of each node oldest edge first
abbrev pub oldest_back : {N E : Type 0} → Direction → Graph N E → List ℕ → List ℕ
oldest_back dir g [] = []
oldest_back dir g (n ∷ ns) = oldest_back dir g ns ++ reverse (neighbors dir g n)

-- The node that comes next: the first node that was not yielded among the neighbors of the yielded nodes, the neighbors
-- of the node yielded last first, and then the start.
abbrev pub next_oldest : {N E : Type 0} → Graph N E → Direction → (start : ℕ) (given : List ℕ) → Option ℕ
next_oldest g dir start given = first_new given (oldest_back dir g given ++ begin g start)

-- A walk depth first, oldest edge first: the node that it starts from; its direction; the nodes that were yielded, in
-- order; the nodes that it has to look at, the next one last; a bound of the indices that it has room for; and how many
-- nodes to look at it has room for.
pub record OldestFirst : Type 0 where
  pub start : ℕ
  pub dir : Direction
  pub given : List ℕ
  pub stack : List ℕ
  pub bound : ℕ
  pub room : ℕ

-- A walk over this graph. But for those that were yielded, the nodes to look at are the neighbors of the yielded nodes,
-- or the start. There is room for the edges of any nodes, each taken once.
pub record IsOldestFirst {N E : Type 0} (g : Graph N E) (walk : OldestFirst) : Type 0 where
  pub left : without_old walk.given (reverse walk.stack)
      ≡ without_old walk.given (oldest_back walk.dir g walk.given ++ begin g walk.start)
  pub once : are_distinct walk.given ≡ true
  pub found : are_found walk.dir g walk.start [] walk.given ≡ true
  pub present : (n : ℕ) → is_among walk.stack n ≡ true → HasNode g n
  pub few : length walk.stack ≤ suc (length (edges_of walk.dir g walk.given))
  pub bounded : node_bound g ≤ walk.bound
  pub fits : (ns : List ℕ) → are_distinct ns ≡ true → length (edges_of walk.dir g ns) ≤ walk.room

-- a step of a walk yields the next node
pub record IsOldestStep {N E : Type 0} (g : Graph N E) (walk : OldestFirst) (node : Option ℕ) (walk' : OldestFirst)
    : Type 0 where
  pub step : IsStep walk.dir g walk.start walk.given node walk'.given
  pub next : node ≡ next_oldest g walk.dir walk.start walk.given
  pub start : walk'.start ≡ walk.start
  pub dir : walk'.dir ≡ walk.dir
