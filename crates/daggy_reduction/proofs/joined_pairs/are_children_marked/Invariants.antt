use Rattle.std.proofs.Common.{◌≡◌, ◌+◌, ◌-◌, true, false, length, get_or}
use Rattle.daggy_base.specs.Graph.{out_list}
use Rattle.daggy_reduction.proofs.Children.{Looking}
use Rattle.daggy_reduction.proofs.joined_pairs.are_children_marked.Given as goal

abbrev pub invariant-edges : goal.invariant-edges
invariant-edges g l =
    Looking g.Ix.IndexType.greatest (g.S.EdgeSource.graph l.fn.source) (g.S.EdgeSource.graph l.source)
    (g.Ix.IndexType.number l.fn.u) (g.Ix.IndexType.number l.e) (g.S.EdgeSource.looks l.fn.source)
    (g.S.EdgeSource.looks l.source) (λ n. get_or l.fn.work.marked n false ≡ true)

abbrev pub decreases-edges : goal.decreases-edges
decreases-edges g l =
    length (out_list (g.S.EdgeSource.graph l.fn.source) (g.Ix.IndexType.number l.fn.u))
    + g.S.EdgeSource.looks l.fn.source - g.S.EdgeSource.looks l.source
