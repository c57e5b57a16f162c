use Rattle.std.proofs.Common.{◌≡◌, ◌≤◌, ◌++◌, map, length, vec_capacity}
use Rattle.std.specs.Vec.Iter.{into_iter_items}
use Rattle.daggy_stable.specs.Stored.{weight_of}
use Rattle.daggy_stable.specs.Building.{IsBuilt}
use Rattle.daggy_stable.proofs.stable_graph.from_slots.make_nodes.Given as goal

abbrev pub invariant-each : goal.invariant-each
invariant-each g l =
    (goal.iterator-each g).can_next l.x-iterator
    × (goal.iterator-each g).is_finite l.x-iterator
    × (length l.fn.given.items ≤ vec_capacity l.nodes.cells)
    × IsBuilt g.Ix.IndexType.greatest l.nodes l.edges
    × (map weight_of l.nodes.cells.items ++ into_iter_items l.x-iterator ≡ l.fn.given.items)
