use Rattle.std.proofs.Common.{◌≡◌, ◌-◌, map, length}
use Rattle.daggy_computed.specs.Heaps.{IsHeap, place_by}
use Rattle.daggy_computed.specs.Refreshing.{IsReady, IsUnderWay}
use Rattle.daggy_computed.specs.Settling.{Gives}
use Rattle.daggy_computed.proofs.UnderWay.{behind}
use Rattle.daggy_computed.proofs.refreshing.refresh_nodes.Given as goal

abbrev pub invariant-nodes : goal.invariant-nodes
invariant-nodes g l =
    let graph = g.S.EdgeSource.graph l.store in
    let number = g.Ix.IndexType.number in
    record {
      ready : IsReady graph l.entries.items l.queue.slots (map number l.queue.nodes);
      len : l.entries.len ≡ l.fn.entries.len;
      heap : IsHeap (place_by number l.order) l.queue.nodes (length l.queue.nodes);
      so_far : IsUnderWay g.V.PartialEq.eq (Gives (goal.F-post g) l.f) l.order graph l.fn.entries.items l.entries.items
          (map number l.changed.items);
    }

abbrev pub decreases-nodes : goal.decreases-nodes
decreases-nodes g l = length l.order - behind l.entries.items l.order
