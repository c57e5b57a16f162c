use Rattle.std.proofs.Common.{◌≡◌, ◌≤◌, map, vec_len}
use Rattle.daggy_base.specs.Graph.{pair_of}
use Rattle.daggy_operators.specs.SimplePaths.{paths_left}
use Rattle.daggy_operators.proofs.Ways.{steps_left}
use Rattle.daggy_operators.proofs.simple_paths.next_along.Given as goal

abbrev pub invariant-steps : goal.invariant-steps
invariant-steps g l =
    record {
      short : vec_len l.way ≤ l.limit;
      same : paths_left (g.S.EdgeSource.graph l.store) (g.Ix.IndexType.number l.to) l.limit (map (pair_of g.Ix.IndexType.number) l.way.items)
          ≡ paths_left (g.S.EdgeSource.graph l.store) (g.Ix.IndexType.number l.to) l.limit (map (pair_of g.Ix.IndexType.number) l.fn.way.items);
    }

abbrev pub decreases-steps : goal.decreases-steps
decreases-steps g l = steps_left (g.S.EdgeSource.graph l.store) l.limit (map (pair_of g.Ix.IndexType.number) l.way.items)
