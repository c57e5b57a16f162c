-- Walks depth first in postorder.
use Rattle.std.specs.Prelude.{◌≡◌, ◌≢◌, ℕ, ◌≤◌, ◌==◌, ◌&&◌, ◌⊎◌, Bool, true, Option, Some, None, IfNone, IfSome, List, [], ◌∷◌}
use Rattle.std.specs.Prelude.{◌++◌, map, Contains}
use Rattle.daggy_base.specs.declared.index.Direction.{Direction}
use Rattle.daggy_base.specs.Graph.{Graph, HasNode, node_bound}
use Rattle.daggy_base.specs.Path.{end_of, IsAcyclic}
use Rattle.daggy_traversal.specs.Traversal.{LeadsTo, LeadsFar, neighbors, neighbors_left, without_old, first_new, is_among}
use Rattle.daggy_traversal.specs.Traversal.{are_distinct, IsStep}

-- A walk in postorder: the node that it starts from; its direction; the nodes that were yielded, in order; the path
-- from the start to the node that was met last; for each node on that path, the edge to read next; and a bound of the
-- indices that it has room for.
pub record Postorder : Type 0 where
  pub start : ℕ
  pub dir : Direction
  pub given : List ℕ
  pub path : List ℕ
  pub cursors : List ℕ
  pub bound : ℕ

-- whether each node of a list is a neighbor of the one before it, and the first of u
abbrev pub leads_along : {N E : Type 0} → Direction → Graph N E → (u : ℕ) → List ℕ → Bool
leads_along dir g u [] = true
leads_along dir g u (v ∷ rest) = is_among (neighbors dir g u) v && leads_along dir g v rest

-- whether a list is empty or a path from the start
abbrev pub is_way : {N E : Type 0} → Direction → Graph N E → (start : ℕ) (path : List ℕ) → Bool
is_way dir g start [] = true
is_way dir g start (u ∷ rest) = (u == start) && leads_along dir g u rest

-- a path is extended by more nodes, each the first neighbor of the node before it that is neither yielded nor on the
-- path
abbrev pub GoesDown : {N E : Type 0} → Direction → Graph N E → (given path more : List ℕ) → Type 0
GoesDown dir g given path [] = Unit {0}
GoesDown dir g given path (v ∷ more) =
    (first_new (given ++ path) (neighbors dir g (end_of 0 path)) ≡ Some v)
    × GoesDown dir g given (path ++ v ∷ []) more

-- Yielding n: the path, which is not empty, is extended as far as possible, and n is its last node, which is yielded.
pub record GivesLast {N E : Type 0} (dir : Direction) (g : Graph N E) (given path path' : List ℕ) (n : ℕ)
    : Type 0 where
  pub some : path ≢ []
  pub more : List ℕ
  pub down : GoesDown dir g given path more
  pub last : path ++ more ≡ path' ++ n ∷ []
  pub over : first_new (given ++ (path ++ more)) (neighbors dir g n) ≡ None

-- of the neighbors of each node on a path, those before its cursor were met
abbrev pub AreLeft : {N E : Type 0} → Direction → Graph N E → (met path cursors : List ℕ) → Type 0
AreLeft dir g met path cursors =
    map (λ n. without_old met (neighbors dir g n)) path ≡ map (λ e. without_old met (neighbors_left dir g e)) cursors

-- A walk over this graph. Each node that was met is yielded or on the path, and the neighbors of the yielded nodes were
-- met.
pub record IsPostorder {N E : Type 0} (g : Graph N E) (walk : Postorder) : Type 0 where
  pub left : AreLeft walk.dir g (walk.given ++ walk.path) walk.path walk.cursors
  pub way : is_way walk.dir g walk.start walk.path ≡ true
  pub once : are_distinct (walk.given ++ walk.path) ≡ true
  pub exists : walk.path ≢ [] → HasNode g walk.start
  pub present : (n : ℕ) → is_among walk.given n ≡ true → HasNode g n
  pub first : HasNode g walk.start → is_among (walk.given ++ walk.path) walk.start ≡ true
  pub done : (u v : ℕ) → is_among walk.given u ≡ true → LeadsTo walk.dir g u v
      → is_among (walk.given ++ walk.path) v ≡ true
  pub room : node_bound g ≤ walk.bound

-- A step of a walk goes down and yields a node. Each neighbor of that node was yielded or reaches it, so in an acyclic
-- graph each was yielded. If the step yields nothing, the walk is unchanged.
pub record IsPostorderStep {N E : Type 0} (g : Graph N E) (walk : Postorder) (node : Option ℕ) (walk' : Postorder)
    : Type 0 where
  pub step : IsStep walk.dir g walk.start walk.given node walk'.given
  pub next : IfSome node (λ n. GivesLast walk.dir g walk.given walk.path walk'.path n)
  pub after : IfSome node (λ n.
      (v : ℕ) → LeadsTo walk.dir g n v → Contains walk.given v ⊎ LeadsFar walk.dir g v n)
  pub acyclic : IsAcyclic g → IfSome node (λ n. (v : ℕ) → LeadsTo walk.dir g n v → Contains walk.given v)
  pub unchanged : IfNone node (walk' ≡ walk)
  pub start : walk'.start ≡ walk.start
  pub dir : walk'.dir ≡ walk.dir
