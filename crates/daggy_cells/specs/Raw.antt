-- How the slices of stored nodes and edges show a graph.
use Rattle.std.specs.Prelude.{◌≡◌, ℕ, List, Some, length, slice_get}
use Rattle.daggy_base.specs.declared.index.Direction.{Direction}
use Rattle.daggy_base.specs.declared.index.Direction.TheVariants.{Outgoing, Incoming}
use Rattle.daggy_base.specs.Graph.{Graph, node_weight, edge_at, list_at}
use Rattle.daggy_base.specs.Cursor.{first_of, cursor_after}
use Rattle.daggy_cells.specs.declared.cell.Node.{Node}
use Rattle.daggy_cells.specs.declared.cell.Edge.{Edge}

-- the first edge of a stored node's list in that direction
abbrev pub raw_first : {N Ix : Type 0} → Direction → Node N Ix → ℕ
raw_first Outgoing x = x.first_out
raw_first Incoming x = x.first_in

-- the node that a stored edge leaves
abbrev pub raw_parent : {E Ix : Type 0} → Edge E Ix → ℕ
raw_parent x = x.parent

-- the node that a stored edge enters
abbrev pub raw_child : {E Ix : Type 0} → Edge E Ix → ℕ
raw_child x = x.child

-- the edge after a stored edge in its list in that direction
abbrev pub raw_next : {E Ix : Type 0} → Direction → Edge E Ix → ℕ
raw_next Outgoing x = x.next_out
raw_next Incoming x = x.next_in

-- the n-th stored node has the weight of the node n, and the first edge of each of its lists, or `end`
pub record ShowsNodes {N E Ix : Type 0} (end : ℕ) (g : Graph N E) (nodes : List (Node N Ix)) : Type 0 where
  pub count : length nodes ≡ length g.nodes
  pub weight : (n : ℕ) (x : Node N Ix) → slice_get nodes n ≡ Some x → node_weight g n ≡ Some x.weight
  pub first : (dir : Direction) (n : ℕ) (x : Node N Ix)
      → slice_get nodes n ≡ Some x → raw_first dir x ≡ first_of end (list_at dir g n)

-- the e-th stored edge has the endpoints and the weight of the edge e, and the edge after it in each of its lists, or
-- `end`
pub record ShowsEdges {N E Ix : Type 0} (end : ℕ) (g : Graph N E) (edges : List (Edge E Ix)) : Type 0 where
  pub count : length edges ≡ length g.edges
  pub edge : (e : ℕ) (x : Edge E Ix) → slice_get edges e ≡ Some x
      → edge_at g e ≡ Some (record { parent = raw_parent x; child = raw_child x; weight = x.weight })
  pub next : (dir : Direction) (e : ℕ) (x : Edge E Ix)
      → slice_get edges e ≡ Some x → raw_next dir x ≡ cursor_after dir end g e (edge_at g e)
