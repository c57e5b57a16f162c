use Rattle.std.proofs.Common.{◌≡◌, ◌≤◌, map, length, vec_capacity}
use Rattle.daggy_graph.specs.Stored.{stored_graph, Stores}
use Rattle.daggy_cells.specs.Fields.{plain_edge}
use Rattle.daggy_graph.proofs.FilterLemmas.{EdgesBelow}
use Rattle.daggy_base.proofs.CallsInTurn.{CanCallSomeFrom}
use Rattle.daggy_base.specs.Mapping.{weight_in}
use Rattle.daggy_graph.proofs.graph.filter.filter_edges.Given as goal

abbrev pub invariant-each : goal.invariant-each
invariant-each g l =
    CanCallSomeFrom g.Ix.IndexType.of (goal.G-pre g) (goal.G-step g) weight_in (map plain_edge l.edges) l.g l.i
    × (length l.edges ≤ vec_capacity l.new)
    × (length l.new.items ≤ l.i)
    × (length l.nodes.items ≡ length l.fn.nodes.items)
    × Stores g.Ix.IndexType.greatest l.nodes.items l.new.items (stored_graph l.nodes.items l.new.items)
    × EdgesBelow (goal.G-step g) g.Ix.IndexType.of l.names.items l.fn.g (map plain_edge l.edges)
    (stored_graph l.fn.nodes.items l.fn.new.items) l.g (stored_graph l.nodes.items l.new.items) l.i
