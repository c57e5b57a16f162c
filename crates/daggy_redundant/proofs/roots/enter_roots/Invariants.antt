use Rattle.std.proofs.Common.{◌-◌, length, map}
use Rattle.daggy_redundant.proofs.QueuedRoots.{Rooting}
use Rattle.daggy_redundant.proofs.roots.enter_roots.Given as goal

abbrev pub invariant-roots : goal.invariant-roots
invariant-roots g l =
    Rooting record {
      graph = g.S.EdgeSource.graph l.fn.source;
      nodes = map g.Ix.IndexType.number l.fn.roots;
      size = l.fn.work.size;
    } record { work = l.work; len = l.len; seen = l.k }

abbrev pub decreases-roots : goal.decreases-roots
decreases-roots g l = length l.fn.roots - l.k
