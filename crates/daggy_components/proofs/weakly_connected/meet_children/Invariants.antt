use Rattle.std.proofs.Common.{◌+◌, ◌-◌, map, length}
use Rattle.daggy_base.specs.Graph.{out_list}
use Rattle.daggy_components.proofs.MetChildren.{Meeting}
use Rattle.daggy_components.proofs.weakly_connected.meet_children.Given as goal

abbrev pub invariant-edges : goal.invariant-edges
invariant-edges g l =
    Meeting g.Ix.IndexType.greatest (g.S.EdgeSource.graph l.fn.source) (g.Ix.IndexType.number l.fn.n) l.fn.place
    l.fn.places.items l.places.items (map g.Ix.IndexType.number l.fn.nodes.items)
    (map g.Ix.IndexType.number l.nodes.items) (g.Ix.IndexType.number l.e) (g.S.EdgeSource.graph l.source)
    (g.S.EdgeSource.looks l.fn.source) (g.S.EdgeSource.looks l.source)

abbrev pub decreases-edges : goal.decreases-edges
decreases-edges g l =
    length (out_list (g.S.EdgeSource.graph l.fn.source) (g.Ix.IndexType.number l.fn.n)) + g.S.EdgeSource.looks l.fn.source
    - g.S.EdgeSource.looks l.source
