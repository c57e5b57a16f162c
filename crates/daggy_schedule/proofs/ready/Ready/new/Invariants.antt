use Rattle.std.proofs.Common.{◌≡◌, ◌≤◌, length, take}
use Rattle.daggy_schedule.proofs.Starting.{AreQueued}
use Rattle.daggy_schedule.proofs.ready.Ready.new.Given as goal

abbrev pub invariant-nodes : goal.invariant-nodes
invariant-nodes g l =
    record {
      queued : AreQueued (g.S.EdgeSource.graph l.store) l.i (take l.tail l.queue.items);
      low : l.tail ≤ l.i;
      queue_sized : length l.queue.items ≡ l.bound;
    }
