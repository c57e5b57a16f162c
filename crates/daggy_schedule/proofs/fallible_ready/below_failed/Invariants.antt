use Rattle.std.proofs.Common.{◌≡◌, length, vec_len}
use Rattle.daggy_base.specs.Graph.{node_bound}
use Rattle.daggy_schedule.proofs.Skipping.{IsBlocking}
use Rattle.daggy_schedule.proofs.fallible_ready.below_failed.Given as goal

abbrev pub invariant-nodes : goal.invariant-nodes
invariant-nodes g l =
    record {
      sized : vec_len l.marks ≡ node_bound (g.S.EdgeSource.graph l.store);
      blocking : IsBlocking (g.S.EdgeSource.graph l.store) l.failed l.marks.items l.nodes;
    }

abbrev pub decreases-nodes : goal.decreases-nodes
decreases-nodes g l = length l.nodes
