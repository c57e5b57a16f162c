use Rattle.std.proofs.Common.{◌≡◌, ◌≤◌, ◌-◌, length}
use Rattle.daggy_base.specs.Graph.{node_bound}
use Rattle.daggy_schedule.proofs.Parents.{AreCounted}
use Rattle.daggy_schedule.proofs.ready.count_parents.Given as goal

abbrev pub invariant-edges : goal.invariant-edges
invariant-edges g l =
    record {
      within : l.e ≤ l.bound;
      sized : length l.counts.items ≡ node_bound (g.S.EdgeSource.graph l.store);
      counted : AreCounted (g.S.EdgeSource.graph l.store) l.e l.counts.items;
    }

abbrev pub decreases-edges : goal.decreases-edges
decreases-edges g l = l.bound - l.e
