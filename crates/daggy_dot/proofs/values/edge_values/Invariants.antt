use Rattle.std.proofs.Common.{◌≡◌, ◌<◌, ℕ, vec_len}
use Rattle.daggy_base.specs.Graph.{slot}
use Rattle.daggy_dot.specs.Values.{IsEdgeValue}
use Rattle.daggy_dot.proofs.values.edge_values.Given as goal

abbrev pub invariant-edges : goal.invariant-edges
invariant-edges g l =
    record {
      sized : vec_len l.values ≡ l.x;
      values : (n : ℕ) → n < l.x
          → IsEdgeValue g.Ix.IndexType.of (goal.F-post g) l.f (g.S.EdgeSource.graph l.graph) n (slot l.values.items n);
    }
