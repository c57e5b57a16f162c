use Rattle.std.proofs.Common.{◌≡◌, ◌≤◌, ◌-◌, take, length}
use Rattle.daggy_base.specs.Graph.{out_list}
use Rattle.daggy_base.specs.Ordered.{place}
use Rattle.daggy_schedule.proofs.Releasing.{Releasing}
use Rattle.daggy_schedule.proofs.ready.release.Given as goal

abbrev pub invariant-children : goal.invariant-children
invariant-children g l =
    record {
      releasing : Releasing g.Ix.IndexType.greatest (g.S.EdgeSource.graph l.store) (g.Ix.IndexType.number l.fn.n)
          l.done.items (take l.tail l.fn.queue.items) (g.Ix.IndexType.number l.e) l.waiting.items
          (take l.at l.queue.items);
      later : l.tail ≤ l.at;
      low : l.at ≤ length l.queue.items;
      kept : take l.tail l.queue.items ≡ take l.tail l.fn.queue.items;
      waiting_long : length l.waiting.items ≡ length l.fn.waiting.items;
      queue_long : length l.queue.items ≡ length l.fn.queue.items;
    }

abbrev pub decreases-children : goal.decreases-children
decreases-children g l =
    length (out_list (g.S.EdgeSource.graph l.store) (g.Ix.IndexType.number l.fn.n))
    - place (out_list (g.S.EdgeSource.graph l.store) (g.Ix.IndexType.number l.fn.n)) (g.Ix.IndexType.number l.e)
