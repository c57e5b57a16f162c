use Rattle.std.proofs.Common.{ℕ, ◌-◌, ◌<◌, ◌≤◌, map, Contains}
use Rattle.daggy_dag.proofs.acyclic.reduction.nodes_below.Given as goal

abbrev pub invariant-nodes : goal.invariant-nodes
invariant-nodes g l =
    record {
      within : l.n ≤ l.count;
      there : (n : ℕ) → n < l.n → Contains (map g.Ix.IndexType.number l.nodes.items) n;
    }

abbrev pub decreases-nodes : goal.decreases-nodes
decreases-nodes g l = l.count - l.n
