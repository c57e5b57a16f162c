use Rattle.std.proofs.Common.{◌≡◌, ℕ, map, length, Contains}
use Rattle.daggy_computed.specs.Cells.{IsStaleAt}
use Rattle.daggy_computed.specs.Heaps.{IsHeap, place_by}
use Rattle.daggy_computed.proofs.refreshing.first_stale.Given as goal

abbrev pub invariant-nodes : goal.invariant-nodes
invariant-nodes g l =
    let number = g.Ix.IndexType.number in
    record {
      heap : IsHeap (place_by number l.order) l.queue.nodes (length l.queue.nodes);
      waits : (m : ℕ) → IsStaleAt l.entries m → Contains (map number l.queue.nodes) m;
      slots : l.queue.slots ≡ l.fn.queue.slots;
    }

abbrev pub decreases-nodes : goal.decreases-nodes
decreases-nodes g l = length l.queue.nodes
