-- Work on the nodes of a graph, each node after its parents.
use Rattle.std.specs.Prelude.{◌≡◌, ℕ, ◌==◌, ◌||◌, ◌&&◌, ◌↔◌, Bool, true, false, not, Option, Some, None, List, [], ◌∷◌}
use Rattle.std.specs.Prelude.{map, length, filter, count_by, slice_get, slice_index_or, Contains, if◌then◌else◌}
use Rattle.std.specs.List.{range_with_len}
use Rattle.daggy_base.specs.Graph.{Graph, Edge, HasNode, edge_at, in_list, out_list}
use Rattle.daggy_base.specs.Iterating.{node_identifiers}

-- the parent of an edge, or 0 if there is no edge
abbrev pub parent_or : {E : Type 0} → Option (Edge E) → ℕ
parent_or None = 0
parent_or (Some x) = x.parent

-- the child of an edge, or 0 if there is no edge
abbrev pub child_or : {E : Type 0} → Option (Edge E) → ℕ
child_or None = 0
child_or (Some x) = x.child

-- the parents of a node, one for each edge that leads to it
abbrev pub parents_of : {N E : Type 0} → Graph N E → ℕ → List ℕ
parents_of g n = map (λ e. parent_or (edge_at g e)) (in_list g n)

-- the children of a node, one for each edge that leaves it, in the order of its out list
abbrev pub children_of : {N E : Type 0} → Graph N E → ℕ → List ℕ
children_of g n = map (λ e. child_or (edge_at g e)) (out_list g n)

-- whether a number is in a list
abbrev pub is_among : List ℕ → ℕ → Bool
is_among [] x = false
is_among (y ∷ ys) x = (y == x) || is_among ys x

-- whether no number of a list occurs twice
abbrev pub are_distinct : List ℕ → Bool
are_distinct [] = true
are_distinct (x ∷ xs) = not (is_among xs x) && are_distinct xs

-- The state of the work: for each node, how many edges lead to it from parents that are not done; the nodes that are
-- ready, the next one first; and by index whether a node was returned, and whether it is done.
pub record Work : Type 0 where
  pub waiting : List ℕ
  pub ready : List ℕ
  pub out : List Bool
  pub done : List Bool

-- a flag at an index
abbrev pub is_set : List Bool → ℕ → Bool
is_set flags n = slice_index_or flags n false

-- the flag at an index is set
abbrev pub IsSet : List Bool → ℕ → Type 0
IsSet flags n = is_set flags n ≡ true

-- the node is in progress: it was returned, and is not done
abbrev pub IsOut : Work → ℕ → Type 0
IsOut work n = IsSet work.out n × ¬ IsSet work.done n

-- no node is ready, and none is in progress
abbrev pub IsIdle : Work → Type 0
IsIdle work = (work.ready ≡ []) × ((n : ℕ) → ¬ IsOut work n)

-- all nodes are done
abbrev pub AreAllDone : {N E : Type 0} → Graph N E → Work → Type 0
AreAllDone g work = (n : ℕ) → HasNode g n → IsSet work.done n

-- the node exists, and all of its parents are done
abbrev pub MayBegin : {N E : Type 0} → Graph N E → List Bool → ℕ → Type 0
MayBegin g done n = HasNode g n × ((u : ℕ) → Contains (parents_of g n) u → IsSet done u)

-- The work on the graph is under way. Each node waits for the edges from parents that are not done. The ready nodes,
-- each once, are exactly the nodes whose parents are all done and that were not returned. Only such nodes were
-- returned, and only nodes that were returned are done. The work is idle if and only if all nodes are done.
pub record IsUnderWay {N E : Type 0} (g : Graph N E) (work : Work) : Type 0 where
  pub waits : (n : ℕ) → HasNode g n
      → slice_get work.waiting n ≡ Some (count_by (λ u. not (is_set work.done u)) (parents_of g n))
  pub ready : (n : ℕ) → (is_among work.ready n ≡ true) ↔ (MayBegin g work.done n × ¬ IsSet work.out n)
  pub once : are_distinct work.ready ≡ true
  pub out : (n : ℕ) → IsSet work.out n → MayBegin g work.done n
  pub done : (n : ℕ) → IsSet work.done n → IsSet work.out n
  pub idle : IsIdle work ↔ AreAllDone g work

-- no edge leads to the node
abbrev pub has_no_parents : {N E : Type 0} → Graph N E → ℕ → Bool
has_no_parents g n = length (in_list g n) == 0

-- no edge leads to the node from a parent that is not done
abbrev pub has_done_parents : {N E : Type 0} → Graph N E → List Bool → ℕ → Bool
has_done_parents g done n = count_by (λ u. not (is_set done u)) (parents_of g n) == 0

-- each number of a list once: where it occurs last
abbrev pub each_last : List ℕ → List ℕ
each_last [] = []
each_last (x ∷ xs) = if is_among xs x then each_last xs else x ∷ each_last xs

-- the children of a node whose parents are all done, in the order of its out list, each at its last edge there
abbrev pub released : {N E : Type 0} → Graph N E → List Bool → ℕ → List ℕ
released g done n = each_last (filter (has_done_parents g done) (children_of g n))

-- whether the node is in progress
abbrev pub is_out : Work → ℕ → Bool
is_out work n = is_set work.out n && not (is_set work.done n)

-- how many nodes are in progress
abbrev pub out_count : Work → ℕ
out_count work = count_by (is_out work) (range_with_len 0 (length work.out))

-- whether the node is neither ready nor was returned
abbrev pub is_waiting : Work → ℕ → Bool
is_waiting work n = not (is_among work.ready n) && not (is_set work.out n)

-- how many nodes of the graph are neither ready nor were returned
abbrev pub waiting_count : {N E : Type 0} → Graph N E → Work → ℕ
waiting_count g work = count_by (is_waiting work) (node_identifiers g)
