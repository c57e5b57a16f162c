use Rattle.std.proofs.Common.{◌-◌, length}
use Rattle.daggy_base.specs.Graph.{out_list}
use Rattle.daggy_base.specs.Ordered.{place}
use Rattle.daggy_schedule.specs.Passes.{later_by}
use Rattle.daggy_schedule.proofs.Late.{Lowering}
use Rattle.daggy_schedule.proofs.schedule.late.latest_finish.Given as goal

abbrev pub invariant-edges : goal.invariant-edges
invariant-edges g l =
    Lowering g.Ix.IndexType.greatest (g.S.EdgeSource.graph l.store) (g.Ix.IndexType.number l.fn.n)
    l.lags (later_by l.starts l.slack) l.makespan (g.Ix.IndexType.number l.e) l.latest

abbrev pub decreases-edges : goal.decreases-edges
decreases-edges g l =
    length (out_list (g.S.EdgeSource.graph l.store) (g.Ix.IndexType.number l.fn.n))
    - place (out_list (g.S.EdgeSource.graph l.store) (g.Ix.IndexType.number l.fn.n)) (g.Ix.IndexType.number l.e)
