use Rattle.std.proofs.Common.{◌≡◌, ◌≤◌, ◌++◌, map, length, vec_capacity}
use Rattle.std.specs.Option.{option_map}
use Rattle.std.specs.Vec.Iter.{into_iter_items}
use Rattle.daggy_base.specs.FromSlots.{edge_of}
use Rattle.daggy_cells.specs.Fields.{weight_of, plain_edge}
use Rattle.daggy_graph.specs.Stored.{IsBuilt}
use Rattle.daggy_graph.proofs.graph.from_slots.make_edges.Given as goal

abbrev pub invariant-each : goal.invariant-each
invariant-each g l =
    (goal.iterator-each g).can_next l.x-iterator
    × (goal.iterator-each g).is_finite l.x-iterator
    × (length l.fn.given.items ≤ vec_capacity l.edges)
    × IsBuilt g.Ix.IndexType.greatest l.nodes.items l.edges.items
    × (map weight_of l.nodes.items ≡ map weight_of l.fn.nodes.items)
    × (map plain_edge l.edges.items ++ map (option_map (edge_of g.Ix.IndexType.number)) (into_iter_items l.x-iterator)
    ≡ map (option_map (edge_of g.Ix.IndexType.number)) l.fn.given.items)
