use Rattle.std.proofs.Common.{◌≡◌, ◌≤◌, length, vec_len, map, drop}
use Rattle.daggy_base.specs.Graph.{node_bound}
use Rattle.daggy_schedule.specs.Times.{IsZeroElsewhere}
use Rattle.daggy_schedule.proofs.LongestPaths.{AreLevelled}
use Rattle.daggy_schedule.proofs.levels.levels_of.Given as goal

abbrev pub invariant-nodes : goal.invariant-nodes
invariant-nodes g l =
    record {
      sized : vec_len l.levels ≡ node_bound l.dag.graph;
      within : l.k ≤ length l.order;
      elsewhere : IsZeroElsewhere l.dag.graph l.levels.items;
      levelled : AreLevelled l.dag.graph l.durations l.levels.items (drop l.k (map g.Ix.IndexType.number l.order));
    }

abbrev pub decreases-nodes : goal.decreases-nodes
decreases-nodes g l = l.k
