use Rattle.std.proofs.Common.{◌≡◌, length, take, drop}
use Rattle.daggy_base.specs.Graph.{node_bound}
use Rattle.daggy_schedule.specs.Passes.{later_by}
use Rattle.daggy_schedule.proofs.Undone.{undone}
use Rattle.daggy_schedule.proofs.Working.{IsWorking, IsStarting}
use Rattle.daggy_schedule.proofs.on_workers.work_off.Given as goal

abbrev pub invariant-events : goal.invariant-events
invariant-events g l =
    IsWorking l.dag.graph l.plan.durations.items l.plan.starts.items
    (later_by l.plan.starts.items l.plan.slack.items) l.count l.ready l.workers

abbrev pub decreases-events : goal.decreases-events
decreases-events g l = undone (node_bound l.dag.graph) l.ready.done

abbrev pub invariant-ready : goal.invariant-ready
invariant-ready g l =
    record {
      working : IsWorking l.dag.graph l.plan.durations.items l.plan.starts.items
          (later_by l.plan.starts.items l.plan.slack.items) l.count l.ready l.workers;
      same_done : l.ready.done ≡ l.initial.ready.done;
    }

abbrev pub decreases-ready : goal.decreases-ready
decreases-ready g l = length l.ready.ready

abbrev pub invariant-begin : goal.invariant-begin
invariant-begin g l =
    IsStarting l.dag.graph l.plan.durations.items l.plan.starts.items
    (later_by l.plan.starts.items l.plan.slack.items) l.count (record {
      waiting = l.ready-inside.waiting.items;
      ready = drop l.ready-inside.head (take l.ready-inside.tail l.ready-inside.queue.items);
      out = l.ready-inside.out.items;
      done = l.ready-inside.done.items;
    }) l.workers

abbrev pub decreases-begin : goal.decreases-begin
decreases-begin g l = length l.workers.waiting
