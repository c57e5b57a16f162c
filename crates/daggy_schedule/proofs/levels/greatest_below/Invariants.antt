use Rattle.std.proofs.Common.{◌-◌, length}
use Rattle.daggy_base.specs.Graph.{out_list}
use Rattle.daggy_base.specs.Ordered.{place}
use Rattle.daggy_schedule.proofs.LongestPaths.{Rising}
use Rattle.daggy_schedule.proofs.levels.greatest_below.Given as goal

abbrev pub invariant-edges : goal.invariant-edges
invariant-edges g l =
    Rising g.Ix.IndexType.greatest (g.S.EdgeSource.graph l.store) (g.Ix.IndexType.number l.fn.n) l.levels
    (g.Ix.IndexType.number l.e) l.greatest

abbrev pub decreases-edges : goal.decreases-edges
decreases-edges g l =
    length (out_list (g.S.EdgeSource.graph l.store) (g.Ix.IndexType.number l.fn.n))
    - place (out_list (g.S.EdgeSource.graph l.store) (g.Ix.IndexType.number l.fn.n)) (g.Ix.IndexType.number l.e)
