use Rattle.std.proofs.Common.{◌≡◌, ◌++◌, ◌+◌, ◌≤◌, length, map, vec_capacity}
use Rattle.std.specs.Vec.Iter.{into_iter_items}
use Rattle.daggy_dag.specs.SlottedCells.{slotted_edge}
use Rattle.daggy_dag.proofs.slot_capacity.put_edges.Given as goal

abbrev pub invariant-each : goal.invariant-each
invariant-each g l =
    (goal.iterator-each g).can_next l.x-iterator
    × (goal.iterator-each g).is_finite l.x-iterator
    × (l.slots.items ++ map slotted_edge (into_iter_items l.x-iterator) ≡ map slotted_edge l.fn.old.items)
    × (length l.slots.items + length (into_iter_items l.x-iterator) ≤ vec_capacity l.slots)
