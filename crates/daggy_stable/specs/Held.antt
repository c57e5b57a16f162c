-- Slots that store a graph without vacant slots.
use Rattle.std.specs.Prelude.{◌≡◌, ℕ, Option, List, Some, length, slice_get}
use Rattle.daggy_base.specs.declared.index.Direction.{Direction}
use Rattle.daggy_base.specs.Graph.{Graph, IsCompact, node_weight, edge_at, list_at}
use Rattle.daggy_base.specs.Cursor.{first_of, cursor_after}
use Rattle.daggy_base.specs.WellFormed.{IsWellFormed}
use Rattle.daggy_cells.specs.declared.cell.Node.{Node}
use Rattle.daggy_cells.specs.declared.cell.Edge.{Edge}
use Rattle.daggy_cells.specs.Raw.{raw_first, raw_next}
use Rattle.daggy_stable.specs.Stored.{weight_of, plain_edge}

-- the n-th slot has the weight of the node n, and the first edge of each of its lists, or `end`
pub record HoldsNodes {N E Ix : Type 0} (end : ℕ) (g : Graph N E) (cells : List (Node (Option N) Ix)) : Type 0 where
  pub count : length cells ≡ length g.nodes
  pub weight : (n : ℕ) (x : Node (Option N) Ix) → slice_get cells n ≡ Some x → node_weight g n ≡ weight_of x
  pub first : (dir : Direction) (n : ℕ) (x : Node (Option N) Ix)
      → slice_get cells n ≡ Some x → raw_first dir x ≡ first_of end (list_at dir g n)

-- the e-th slot has the endpoints and the weight of the edge e, and the edge after it in each of its lists, or `end`
pub record HoldsEdges {N E Ix : Type 0} (end : ℕ) (g : Graph N E) (cells : List (Edge (Option E) Ix)) : Type 0 where
  pub count : length cells ≡ length g.edges
  pub edge : (e : ℕ) (x : Edge (Option E) Ix) → slice_get cells e ≡ Some x → edge_at g e ≡ plain_edge x
  pub next : (dir : Direction) (e : ℕ) (x : Edge (Option E) Ix)
      → slice_get cells e ≡ Some x → raw_next dir x ≡ cursor_after dir end g e (edge_at g e)

-- these slots store the graph, which is well formed and has no vacant slot
pub record HoldsGraph {N E Ix : Type 0} (end : ℕ) (nodes : List (Node (Option N) Ix))
    (edges : List (Edge (Option E) Ix)) (g : Graph N E) : Type 0 where
  pub compact : IsCompact g
  pub well_formed : IsWellFormed end g
  pub node_cells : HoldsNodes end g nodes
  pub edge_cells : HoldsEdges end g edges
