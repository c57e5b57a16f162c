use Rattle.std.proofs.Common.{◌+◌, ◌-◌, map}
use Rattle.daggy_base.specs.Graph.{node_bound, edge_count}
use Rattle.daggy_cycles.proofs.Searching.{Searching}
use Rattle.daggy_cycles.proofs.shortest.shortest_cycle.Given as goal

abbrev pub invariant-steps : goal.invariant-steps
invariant-steps g l =
    Searching g.Ix.IndexType.greatest (g.S.EdgeSource.graph l.fn.source) (g.S.EdgeSource.looks l.fn.source)
    (g.Ix.IndexType.number l.start) (g.S.EdgeSource.graph l.source) (g.S.EdgeSource.looks l.source) l.places.items
    (map g.Ix.IndexType.number l.nodes.items) l.head (g.Ix.IndexType.number l.e)

abbrev pub decreases-steps : goal.decreases-steps
decreases-steps g l =
    (edge_count (g.S.EdgeSource.graph l.fn.source) + g.S.EdgeSource.looks l.fn.source - g.S.EdgeSource.looks l.source)
    + (node_bound (g.S.EdgeSource.graph l.fn.source) - l.head)
