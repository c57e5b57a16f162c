-- The lists of a stored graph in other orders.
use Rattle.std.specs.Prelude.{ℕ, Option, List, map}
use Rattle.daggy_base.specs.declared.index.Direction.{Direction}
use Rattle.daggy_base.specs.Orders.{lists_by_slots}
use Rattle.daggy_cells.specs.declared.cell.Node.{Node}
use Rattle.daggy_cells.specs.Fields.{order_at}
use Rattle.daggy_stable.specs.Stored.{weight_of}

-- a list for each node slot: the new list in that direction of the node in it
abbrev pub new_lists : {N Ix : Type 0} → Direction → List (Node (Option N) Ix) → List (List ℕ × List ℕ) → List (List ℕ)
new_lists dir nodes orders = lists_by_slots (map weight_of nodes) (map (order_at dir) orders)
