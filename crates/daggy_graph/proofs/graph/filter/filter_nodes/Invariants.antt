use Rattle.std.proofs.Common.{◌≡◌, ◌≤◌, map, length, vec_capacity}
use Rattle.daggy_graph.specs.Stored.{stored_graph, Stores}
use Rattle.daggy_cells.specs.Fields.{weight_of}
use Rattle.daggy_graph.specs.Names.{AreNamesBelow}
use Rattle.daggy_graph.proofs.FilterLemmas.{FilteredBelow}
use Rattle.daggy_base.proofs.CallsInTurn.{CanCallFrom}
use Rattle.daggy_graph.proofs.graph.filter.filter_nodes.Given as goal

abbrev pub invariant-each : goal.invariant-each
invariant-each g l =
    CanCallFrom g.Ix.IndexType.of (goal.F-pre g) (goal.F-step g) (λ w. w) (map weight_of l.nodes) l.f l.i
    × (length l.nodes ≤ vec_capacity l.new)
    × (length l.nodes ≤ vec_capacity l.names)
    × (length l.new.items ≤ l.i)
    × (length l.names.items ≡ l.i)
    × AreNamesBelow (length l.new.items) l.names.items
    × Stores g.Ix.IndexType.greatest l.new.items l.edges.items (stored_graph l.new.items l.edges.items)
    × FilteredBelow (goal.F-step g) g.Ix.IndexType.of l.fn.f (map weight_of l.nodes) l.f l.names.items
    (stored_graph l.new.items l.edges.items) l.i
