use Rattle.std.proofs.Common.{map}
use Rattle.daggy_base.specs.Ordered.{place}
use Rattle.daggy_schedule.proofs.PathBack.{Chaining}
use Rattle.daggy_schedule.proofs.schedule.early.path_back.Given as goal

abbrev pub invariant-path : goal.invariant-path
invariant-path g l =
    Chaining g.Ix.IndexType.greatest l.dag.graph l.parents (g.Ix.IndexType.number l.fn.last)
    (map g.Ix.IndexType.number l.path.items) (g.Ix.IndexType.number l.n)

abbrev pub decreases-path : goal.decreases-path
decreases-path g l = place (map g.Ix.IndexType.number l.fn._order) (g.Ix.IndexType.number l.n)
