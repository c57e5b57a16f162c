use Rattle.std.proofs.Common.{◌+◌, ◌-◌, ◌≤◌}
use Rattle.daggy_base.specs.Ordered.{edges_from}
use Rattle.daggy_reduction.proofs.Children.{Comparing, down}
use Rattle.daggy_reduction.proofs.joined_pairs.joins_all.Given as goal

abbrev pub invariant-nodes : goal.invariant-nodes
invariant-nodes g l =
    record {
      comparing : Comparing record {
        one = g.A.EdgeSource.graph l.fn.a;
        other = g.B.EdgeSource.graph l.fn.b;
        size = l.fn.work.size;
        bound = l.bound;
      } record {
        one = g.A.EdgeSource.graph l.a;
        other = g.B.EdgeSource.graph l.b;
        size = l.work.size;
        node = l.n;
      };
      looked : g.A.EdgeSource.looks l.fn.a ≤ g.A.EdgeSource.looks l.a;
      other_looked : g.B.EdgeSource.looks l.fn.b ≤ g.B.EdgeSource.looks l.b;
      counted : g.A.EdgeSource.looks l.a
          ≤ g.A.EdgeSource.looks l.fn.a + edges_from (g.A.EdgeSource.graph l.fn.a) (down l.n);
      other_counted : g.B.EdgeSource.looks l.b
          ≤ g.B.EdgeSource.looks l.fn.b + edges_from (g.B.EdgeSource.graph l.fn.b) (down l.n);
    }

abbrev pub decreases-nodes : goal.decreases-nodes
decreases-nodes g l = l.bound - l.n
