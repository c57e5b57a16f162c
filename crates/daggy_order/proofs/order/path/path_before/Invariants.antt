use Rattle.std.proofs.Common.{map}
use Rattle.daggy_base.specs.Ordered.{place}
use Rattle.daggy_order.proofs.WaysBack.{GoingBack}
use Rattle.daggy_order.proofs.order.path.path_before.Given as goal

abbrev pub invariant-back : goal.invariant-back
invariant-back g l =
    GoingBack (g.S.EdgeSource.graph l.fn.source) (g.Ix.IndexType.number l.from) (g.Ix.IndexType.number l.fn.to)
    l.work.entered l.work.cursors (map g.Ix.IndexType.number l.path.items) (g.Ix.IndexType.number l.n)

abbrev pub decreases-back : goal.decreases-back
decreases-back g l = place l.list.nodes (g.Ix.IndexType.number l.n)
