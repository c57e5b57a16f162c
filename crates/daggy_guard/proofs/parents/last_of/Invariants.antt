use Rattle.daggy_guard.proofs.ParentsInTurn.{IsLastSoFar}
use Rattle.daggy_guard.proofs.parents.last_of.Given as goal

abbrev pub invariant-items : goal.invariant-items
invariant-items g l =
    IsLastSoFar g.Ix.IndexType.number l.order (g.Ix.IndexType.number l.fn.n) l.items l.i (g.Ix.IndexType.number l.last)
