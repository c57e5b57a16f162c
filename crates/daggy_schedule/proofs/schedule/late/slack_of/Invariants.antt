use Rattle.std.proofs.Common.{◌≡◌, ◌≤◌, length, vec_len, map, drop}
use Rattle.daggy_base.specs.Graph.{node_bound}
use Rattle.daggy_schedule.specs.Times.{IsZeroElsewhere}
use Rattle.daggy_schedule.specs.Passes.{later_by}
use Rattle.daggy_schedule.proofs.Late.{Slackening}
use Rattle.daggy_schedule.proofs.schedule.late.slack_of.Given as goal

abbrev pub invariant-nodes : goal.invariant-nodes
invariant-nodes g l =
    record {
      sized : vec_len l.slack ≡ node_bound l.dag.graph;
      within : l.k ≤ length l.order;
      elsewhere : IsZeroElsewhere l.dag.graph l.slack.items;
      slackening : Slackening l.dag.graph l.durations l.lags (later_by l.early.starts.items l.slack.items) l.early.makespan
          (drop l.k (map g.Ix.IndexType.number l.order));
    }

abbrev pub decreases-nodes : goal.decreases-nodes
decreases-nodes g l = l.k
