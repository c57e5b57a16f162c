-- Walks over all nodes reachable from a node, in a direction of the edges.
use Rattle.std.specs.Prelude.{◌≡◌, ℕ, zero, suc, ◌==◌, ◌≤◌, ◌||◌, ◌&&◌, ◌↔◌, Bool, true, false, not, Option, Some, None, List}
use Rattle.std.specs.Prelude.{[], ◌∷◌, ◌++◌, length, IsNone, IfNone, IfSome}
use Rattle.std.specs.Prelude.{map, filter, is_some, Contains, if◌then◌else◌}
use Rattle.daggy_base.specs.declared.index.Direction.{Direction}
use Rattle.daggy_base.specs.declared.index.Direction.TheVariants.{Outgoing, Incoming}
use Rattle.daggy_base.specs.Graph.{Graph, Edge, HasNode, node_weight, node_bound, edge_at, list_at, near_end, far_end}
use Rattle.daggy_base.specs.Path.{AreJoined, Reaches}
use Rattle.daggy_base.specs.Cursor.{after}
use Rattle.daggy_base.specs.WellFormed.{AreDistinct}
use Rattle.daggy_visit.specs.Visit.{IsVisited}

-- an edge leads from u to v in the direction
abbrev pub LeadsTo : {N E : Type 0} → Direction → Graph N E → ℕ → ℕ → Type 0
LeadsTo Outgoing g u v = AreJoined g u v
LeadsTo Incoming g u v = AreJoined g v u

-- a path leads from u to v in the direction
abbrev pub LeadsFar : {N E : Type 0} → Direction → Graph N E → ℕ → ℕ → Type 0
LeadsFar Outgoing g u v = Reaches g u v
LeadsFar Incoming g u v = Reaches g v u

-- a path with this number of edges leads from u to v in the direction
abbrev pub IsAway : {N E : Type 0} → Direction → Graph N E → (u v edges : ℕ) → Type 0
IsAway dir g u v zero = HasNode g u × (u ≡ v)
IsAway dir g u v (suc edges) = (w : ℕ) × IsAway dir g u w edges × LeadsTo dir g w v

-- the endpoint that an edge leads to in the direction
abbrev pub far_of : Direction → (parent child : ℕ) → ℕ
far_of Outgoing parent child = child
far_of Incoming parent child = parent

-- the node that an edge leads to in the direction, or 0 if there is no edge
abbrev pub far_or : {E : Type 0} → Direction → Option (Edge E) → ℕ
far_or dir None = 0
far_or dir (Some x) = far_end dir x

-- the neighbors of a node, one for each edge of its list, in the order of the list
abbrev pub neighbors : {N E : Type 0} → Direction → Graph N E → ℕ → List ℕ
neighbors dir g n = map (λ e. far_or dir (edge_at g e)) (list_at dir g n)

-- a list from a member on
abbrev pub rest_from : List ℕ → ℕ → List ℕ
rest_from [] e = []
rest_from (x ∷ xs) e = if x == e then x ∷ xs else rest_from xs e

-- the edges from the edge e on in its list, or none if there is no edge e
abbrev pub edges_left : {N E : Type 0} → Direction → Graph N E → (e : ℕ) → Option (Edge E) → List ℕ
edges_left dir g e None = []
edges_left dir g e (Some x) = rest_from (list_at dir g (near_end dir x)) e

-- the neighbors at these edges
abbrev pub neighbors_left : {N E : Type 0} → Direction → Graph N E → (e : ℕ) → List ℕ
neighbors_left dir g e = map (λ k. far_or dir (edge_at g k)) (edges_left dir g e (edge_at g e))

-- whether a number is in a list
abbrev pub is_among : List ℕ → ℕ → Bool
is_among [] x = false
is_among (y ∷ ys) x = (y == x) || is_among ys x

-- whether no number of a list occurs twice
abbrev pub are_distinct : List ℕ → Bool
are_distinct [] = true
are_distinct (x ∷ xs) = not (is_among xs x) && are_distinct xs

-- the numbers of a list that are not among others
abbrev pub without_old : (old : List ℕ) → List ℕ → List ℕ
without_old old xs = filter (λ x. not (is_among old x)) xs

-- the first number of a list that is not among others
abbrev pub first_new : (old : List ℕ) → List ℕ → Option ℕ
first_new old [] = None
first_new old (x ∷ xs) = if is_among old x then first_new old xs else Some x

-- the start, if it exists
abbrev pub begin : {N E : Type 0} → Graph N E → (start : ℕ) → List ℕ
begin g start = if is_some (node_weight g start) then start ∷ [] else []

-- the neighbors of the nodes of a list, one node after another
abbrev pub neighbors_of : {N E : Type 0} → Direction → Graph N E → List ℕ → List ℕ
neighbors_of dir g [] = []
neighbors_of dir g (n ∷ ns) = neighbors dir g n ++ neighbors_of dir g ns

-- whether each node of a list is the start, or a neighbor of a node before it or of a yielded node
abbrev pub are_found : {N E : Type 0} → Direction → Graph N E → (start : ℕ) (given : List ℕ) → List ℕ → Bool
are_found dir g start given [] = true
are_found dir g start given (x ∷ xs) =
    is_among (begin g start ++ neighbors_of dir g given) x && are_found dir g start (given ++ x ∷ []) xs

-- all nodes that the start reaches were yielded
abbrev pub AreAllGiven : {N E : Type 0} → Graph N E → Direction → (start : ℕ) (given : List ℕ) → Type 0
AreAllGiven g dir start given = (n : ℕ) → LeadsFar dir g start n → Contains given n

-- A step of a walk from a start, after the yielded nodes. It yields a node that the start reaches and that was not
-- yielded before, which is then the last yielded node. It yields nothing if and only if all were yielded.
pub record IsStep {N E : Type 0} (dir : Direction) (g : Graph N E) (start : ℕ) (given : List ℕ) (node : Option ℕ)
    (given' : List ℕ) : Type 0 where
  pub none : IsNone node ↔ AreAllGiven g dir start given
  pub reached : IfSome node (λ n. LeadsFar dir g start n)
  pub once : IfSome node (λ n. ¬ Contains given n)
  pub grown : IfSome node (λ n. given' ≡ given ++ n ∷ [])
  pub kept : IfNone node (given' ≡ given)
  pub few : length given' ≤ node_bound g

-- the set contains exactly the nodes of the list, each of which is in the list once
pub record AreMarked (set : List Bool) (nodes : List ℕ) : Type 0 where
  pub exact : (n : ℕ) → IsVisited set n ↔ Contains nodes n
  pub once : AreDistinct nodes

-- v is the other end of the edge e, and `next` is the edge after e in the same list, or `end`
pub record IsNeighbor {N E : Type 0} (dir : Direction) (end : ℕ) (g : Graph N E) (e v next : ℕ) : Type 0 where
  pub edge : Edge E
  pub at : edge_at g e ≡ Some edge
  pub far : v ≡ far_end dir edge
  pub next_is : next ≡ after end (list_at dir g (near_end dir edge)) e
