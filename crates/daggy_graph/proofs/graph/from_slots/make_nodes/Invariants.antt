use Rattle.std.proofs.Common.{◌≡◌, ◌≤◌, ◌++◌, map, length, vec_capacity}
use Rattle.std.specs.Vec.Iter.{into_iter_items}
use Rattle.daggy_cells.specs.Fields.{weight_of}
use Rattle.daggy_graph.specs.Stored.{IsBuilt}
use Rattle.daggy_graph.proofs.graph.from_slots.make_nodes.Given as goal

abbrev pub invariant-each : goal.invariant-each
invariant-each g l =
    (goal.iterator-each g).can_next l.x-iterator
    × (goal.iterator-each g).is_finite l.x-iterator
    × (length l.fn.given.items ≤ vec_capacity l.nodes)
    × IsBuilt g.Ix.IndexType.greatest l.nodes.items l.edges.items
    × (map weight_of l.nodes.items ++ into_iter_items l.x-iterator ≡ l.fn.given.items)
