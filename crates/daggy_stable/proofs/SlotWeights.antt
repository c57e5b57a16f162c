-- The weights in lists of node slots and edge slots.
use Rattle.std.specs.Prelude.{ℕ, Option, Some, List, map}
use Rattle.std.specs.Option.{option_map}
use Rattle.daggy_base.specs.Graph.{slot}
use Rattle.daggy_cells.specs.declared.cell.Node.{Node}
use Rattle.daggy_cells.specs.declared.cell.Edge.{Edge}
use Rattle.daggy_cells.specs.Cells.{node_of_weight, edge_of_weight}
use Rattle.daggy_cells.proofs.Weights.{changed_at}
use Rattle.daggy_stable.specs.Stored.{weight_of, plain_edge}

-- the weight of the node in this slot, if the slot is not vacant
abbrev pub node_weight_in : {N Ix : Type 0} → List (Node (Option N) Ix) → ℕ → Option N
node_weight_in nodes i = slot (map weight_of nodes) i

-- the weight of the edge in this slot, if the slot is not vacant
abbrev pub edge_weight_in : {E Ix : Type 0} → List (Edge (Option E) Ix) → ℕ → Option E
edge_weight_in edges i = option_map (λ x. x.weight) (slot (map plain_edge edges) i)

-- the list after v and then w are written in the slots a and b
abbrev pub with_node_weights : {N Ix : Type 0}
    → List (Node (Option N) Ix) → (a b : ℕ) → N → N → List (Node (Option N) Ix)
with_node_weights nodes a b v w = changed_at (node_of_weight (Some w)) (changed_at (node_of_weight (Some v)) nodes a) b

-- the same for edge slots
abbrev pub with_edge_weights : {E Ix : Type 0}
    → List (Edge (Option E) Ix) → (a b : ℕ) → E → E → List (Edge (Option E) Ix)
with_edge_weights edges a b v w = changed_at (edge_of_weight (Some w)) (changed_at (edge_of_weight (Some v)) edges a) b
