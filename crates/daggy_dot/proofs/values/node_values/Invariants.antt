use Rattle.std.proofs.Common.{◌≡◌, ◌<◌, ℕ, vec_len}
use Rattle.daggy_base.specs.Graph.{slot}
use Rattle.daggy_dot.specs.Values.{IsNodeValue}
use Rattle.daggy_dot.proofs.values.node_values.Given as goal

abbrev pub invariant-nodes : goal.invariant-nodes
invariant-nodes g l =
    record {
      sized : vec_len l.values ≡ l.x;
      values : (n : ℕ) → n < l.x
          → IsNodeValue g.Ix.IndexType.of (goal.F-post g) l.f (g.S.EdgeSource.graph l.graph) n (slot l.values.items n);
    }
