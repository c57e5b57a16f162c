use Rattle.std.proofs.Common.{ℕ}
use Rattle.daggy_base.specs.Graph.{list_at}
use Rattle.daggy_visit.proofs.ListCursors.{IsAt}
use Rattle.daggy_visit.proofs.prefetch.touch_list.Given as goal

abbrev pub invariant-edges : goal.invariant-edges
invariant-edges g l =
    (k : ℕ) × IsAt g.Ix.IndexType.greatest
    (list_at l.fn.dir (g.S.EdgeSource.graph l.graph) (g.Ix.IndexType.number l.fn.n)) k (g.Ix.IndexType.number l.e)
