-- Simple paths from one node to another, listed. In an acyclic graph every path is simple.
use Rattle.std.specs.Prelude.{◌≡◌, ℕ, zero, suc, ◌≤◌, ◌==◌, List, [], ◌∷◌, ◌++◌, length, map, is_some, if◌then◌else◌}
use Rattle.std.specs.List.{flat_map, filter_map}
use Rattle.std.specs.Option.{option_map}
use Rattle.daggy_base.specs.declared.index.Direction.TheVariants.{Outgoing}
use Rattle.daggy_base.specs.Graph.{Graph, node_weight, edge_at, out_list}
use Rattle.daggy_base.specs.Path.{IsPath, end_of}
use Rattle.daggy_dag.specs.Walks.{rest_of_walk}

-- the children to which these edges lead
abbrev pub children_by : {N E : Type 0} → Graph N E → List ℕ → List ℕ
children_by g edges = filter_map (λ e. option_map (λ x. x.child) (edge_at g e)) edges

-- the path of a node alone, if the node exists
abbrev pub path_of_one : {N E : Type 0} → Graph N E → ℕ → List (List ℕ)
path_of_one g n = if is_some (node_weight g n) then (n ∷ []) ∷ [] else []

-- The paths from a to b of at most that many edges, as lists of nodes: those by the first edge of the out list of a, then
-- those by the second, and so on. So parallel edges have a path each.
unfoldable pub paths_within : {N E : Type 0} → Graph N E → (b limit a : ℕ) → List (List ℕ)
paths_within g b zero a = if a == b then path_of_one g a else []
paths_within g b (suc k) a =
    if a == b
    then path_of_one g a
    else map (λ path. a ∷ path) (flat_map (paths_within g b k) (children_by g (out_list g a)))

-- the paths of at most that many edges that a search has left: on from the way that it is on, which is a list of nodes,
-- each with the edge of its list that comes next; the last node first
unfoldable pub paths_left : {N E : Type 0} → Graph N E → (b limit : ℕ) → List (ℕ × ℕ) → List (List ℕ)
paths_left g b zero way = []
paths_left g b (suc k) [] = []
paths_left g b (suc k) (at ∷ way) =
    map (λ path. at.0 ∷ path)
    (paths_left g b k way ++ flat_map (paths_within g b k) (children_by g (rest_of_walk Outgoing g at.1)))

-- a path from a to b of at most that many edges
pub record IsPathWithin {N E : Type 0} (g : Graph N E) (a b limit : ℕ) (path : List ℕ) : Type 0 where
  pub rest : List ℕ
  pub begins : path ≡ a ∷ rest
  pub is_path : IsPath g (a ∷ rest)
  pub ends : end_of a rest ≡ b
  pub short : length rest ≤ limit
