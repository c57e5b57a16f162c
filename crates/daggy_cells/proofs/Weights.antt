-- The weights in lists of stored nodes and edges.
use Rattle.std.specs.Prelude.{ℕ, zero, suc, Option, List, [], ◌∷◌, slice_get}
use Rattle.std.specs.Option.{option_map}
use Rattle.daggy_cells.specs.declared.cell.Node.{Node}
use Rattle.daggy_cells.specs.declared.cell.Edge.{Edge}
use Rattle.daggy_cells.specs.Cells.{node_of_weight, edge_of_weight}

-- the list with the item at i changed, if it exists
abbrev pub changed_at : {C : Type 0} → (C → C) → List C → ℕ → List C
changed_at change [] i = []
changed_at change (x ∷ xs) zero = change x ∷ xs
changed_at change (x ∷ xs) (suc i) = x ∷ changed_at change xs i

-- the weight of the i-th node, if it exists
abbrev pub node_weight_at : {N Ix : Type 0} → List (Node N Ix) → ℕ → Option N
node_weight_at nodes i = option_map (λ x. x.weight) (slice_get nodes i)

-- the weight of the i-th edge, if it exists
abbrev pub edge_weight_at : {E Ix : Type 0} → List (Edge E Ix) → ℕ → Option E
edge_weight_at edges i = option_map (λ x. x.weight) (slice_get edges i)

-- the list after v and then w are written at the indices a and b
abbrev pub with_node_weights : {N Ix : Type 0} → List (Node N Ix) → (a b : ℕ) → N → N → List (Node N Ix)
with_node_weights nodes a b v w = changed_at (node_of_weight w) (changed_at (node_of_weight v) nodes a) b

-- the list after v and then w are written at the indices a and b
abbrev pub with_edge_weights : {E Ix : Type 0} → List (Edge E Ix) → (a b : ℕ) → E → E → List (Edge E Ix)
with_edge_weights edges a b v w = changed_at (edge_of_weight w) (changed_at (edge_of_weight v) edges a) b
