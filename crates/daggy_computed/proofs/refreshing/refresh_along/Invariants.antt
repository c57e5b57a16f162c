use Rattle.std.proofs.Common.{◌≡◌, map}
use Rattle.daggy_computed.specs.Refreshing.{IsReady}
use Rattle.daggy_computed.specs.Settling.{Gives}
use Rattle.daggy_computed.proofs.Along.{IsAlong}
use Rattle.daggy_computed.proofs.refreshing.refresh_along.Given as goal

abbrev pub invariant-nodes : goal.invariant-nodes
invariant-nodes g l =
    let graph = g.S.EdgeSource.graph l.store in
    let number = g.Ix.IndexType.number in
    record {
      can : (goal.iterator-nodes g).can_next l.n-iterator;
      ends : (goal.iterator-nodes g).is_finite l.n-iterator;
      ready : IsReady graph l.entries.items l.queue.slots (map number l.queue.nodes);
      len : l.entries.len ≡ l.fn.entries.len;
      so_far : IsAlong g.V.PartialEq.eq (Gives (goal.F-post g) l.f) l.order graph l.n-iterator l.fn.entries.items l.entries.items
          (map number l.fn.changed.items) (map number l.changed.items);
    }
