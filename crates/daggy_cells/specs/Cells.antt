-- Stored nodes and edges with other weights.
use Rattle.daggy_cells.specs.declared.cell.Node.{Node}
use Rattle.daggy_cells.specs.declared.cell.Edge.{Edge}

-- the node with another weight
abbrev pub node_of_weight : {N Ix : Type 0} → N → Node N Ix → Node N Ix
node_of_weight w x = record x { weight = w }

-- the edge with another weight
abbrev pub edge_of_weight : {E Ix : Type 0} → E → Edge E Ix → Edge E Ix
edge_of_weight w x = record x { weight = w }
