-- What iterators over a graph yield.
use Rattle.std.specs.Prelude.{ℕ, ◌+◌, Option, Some, None, List, [], ◌∷◌, map}
use Rattle.std.specs.List.{filter_map}
use Rattle.std.specs.Option.{option_map}
use Rattle.daggy_base.specs.declared.index.Direction.{Direction}
use Rattle.daggy_base.specs.Graph.{Graph, Edge, edge_at, list_at, far_end}

-- the contents of the occupied slots from i on, each with its index, in ascending order
abbrev pub numbered : {A : Type 0} → ℕ → List (Option A) → List (ℕ × A)
numbered i [] = []
numbered i (None ∷ xs) = numbered (i + 1) xs
numbered i (Some x ∷ xs) = (i, x) ∷ numbered (i + 1) xs

-- the nodes, each with its index, in ascending order
abbrev pub node_references : {N E : Type 0} → Graph N E → List (ℕ × N)
node_references g = numbered 0 g.nodes

-- the edges, each with its index, in ascending order
abbrev pub edge_references : {N E : Type 0} → Graph N E → List (ℕ × Edge E)
edge_references g = numbered 0 g.edges

-- the indices of the nodes, in ascending order
abbrev pub node_identifiers : {N E : Type 0} → Graph N E → List ℕ
node_identifiers g = map (λ p. p.0) (node_references g)

-- the indices of the edges, in ascending order
abbrev pub edge_identifiers : {N E : Type 0} → Graph N E → List ℕ
edge_identifiers g = map (λ p. p.0) (edge_references g)

-- the weights of the nodes, in ascending index order
abbrev pub node_weights : {N E : Type 0} → Graph N E → List N
node_weights g = map (λ p. p.1) (node_references g)

-- the weights of the edges, in ascending index order
abbrev pub edge_weights : {N E : Type 0} → Graph N E → List E
edge_weights g = map (λ p. p.1.weight) (edge_references g)

-- the edges of n's list in that direction, each with its index, in list order
abbrev pub edges_at : {N E : Type 0} → Direction → Graph N E → ℕ → List (ℕ × Edge E)
edges_at dir g n = filter_map (λ e. option_map (λ x. (e, x)) (edge_at g e)) (list_at dir g n)

-- their far endpoints
abbrev pub neighbors_at : {N E : Type 0} → Direction → Graph N E → ℕ → List ℕ
neighbors_at dir g n = map (λ p. far_end dir p.1) (edges_at dir g n)
