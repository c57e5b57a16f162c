use Rattle.daggy_operators.specs.SortedChildren.{keyed_by}
use Rattle.daggy_operators.proofs.SortedChildren.{Gathered}
use Rattle.daggy_operators.proofs.sorted_children.keyed_edges.Given as goal

abbrev pub invariant-edges : goal.invariant-edges
invariant-edges g l =
    Gathered g.Ix.IndexType.of (goal.F-post g) l.key (g.S.EdgeSource.graph l.store) g.Ix.IndexType.number l.list l.i
    (keyed_by g.Ix.IndexType.number l.keyed.items)
