use Rattle.std.proofs.Common.{ℕ, ◌<◌, get_or}
use Rattle.daggy_base.specs.Ordered.{place}
use Rattle.daggy_guard.proofs.parents.precede.Given as goal

abbrev pub invariant-items : goal.invariant-items
invariant-items g l =
    (k : ℕ) (d : g.row.Ix.Denot × g.row.E.Denot) → k < l.i
    → place l.order (g.Ix.IndexType.number (get_or l.items k d).0) < place l.order (g.Ix.IndexType.number l.fn.n)
