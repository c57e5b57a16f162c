-- The nodes and edges of a compact graph, moved into slots.
use Rattle.std.specs.Prelude.{Some, Option}
use Rattle.daggy_cells.specs.declared.cell.Node.{Node}
use Rattle.daggy_cells.specs.declared.cell.Edge.{Edge}

-- a stored node of a compact graph, in a slot
abbrev pub slotted_node : {N Ix : Type 0} → Node N Ix → Node (Option N) Ix
slotted_node x = record { weight = Some x.weight; first_out = x.first_out; first_in = x.first_in }

-- a stored edge of a compact graph, in a slot
abbrev pub slotted_edge : {E Ix : Type 0} → Edge E Ix → Edge (Option E) Ix
slotted_edge x = record {
  weight = Some x.weight;
  parent = x.parent;
  child = x.child;
  next_out = x.next_out;
  next_in = x.next_in;
}
