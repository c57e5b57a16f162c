use Rattle.std.proofs.Common.{◌-◌, length}
use Rattle.daggy_base.specs.Graph.{out_list}
use Rattle.daggy_base.specs.Ordered.{place}
use Rattle.daggy_schedule.proofs.Delays.{Delaying}
use Rattle.daggy_schedule.proofs.schedule.early.delay_children.Given as goal

abbrev pub invariant-edges : goal.invariant-edges
invariant-edges g l =
    Delaying g.Ix.IndexType.greatest (g.S.EdgeSource.graph l.store) (g.Ix.IndexType.number l.n) l.finish l.lags
    l.fn.starts.items l.fn.parents.items (g.Ix.IndexType.number l.e) l.starts.items l.parents.items

abbrev pub decreases-edges : goal.decreases-edges
decreases-edges g l =
    length (out_list (g.S.EdgeSource.graph l.store) (g.Ix.IndexType.number l.n))
    - place (out_list (g.S.EdgeSource.graph l.store) (g.Ix.IndexType.number l.n)) (g.Ix.IndexType.number l.e)
