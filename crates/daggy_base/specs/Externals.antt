-- Nodes without parents, and nodes without children.
use Rattle.std.specs.Prelude.{ℕ, ◌-◌, ◌==◌, Bool, ◌&&◌, is_some, List, length}
use Rattle.std.specs.List.{filter, range_with_len}
use Rattle.daggy_base.specs.declared.index.Direction.{Direction}
use Rattle.daggy_base.specs.Graph.{Graph, node_weight, list_at}

-- whether the node exists and has no edge in its list of that direction
abbrev pub is_external : {N E : Type 0} → Direction → Graph N E → ℕ → Bool
is_external dir g n = is_some (node_weight g n) && (length (list_at dir g n) == 0)

-- those nodes from the index i on, in ascending order
abbrev pub externals_from : {N E : Type 0} → Direction → Graph N E → ℕ → List ℕ
externals_from dir g i = filter (is_external dir g) (range_with_len i (length g.nodes - i))
