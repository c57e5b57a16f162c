use Rattle.std.proofs.Common.{◌≡◌, map}
use Rattle.daggy_computed.specs.Refreshing.{IsReady}
use Rattle.daggy_computed.specs.Settling.{Gives}
use Rattle.daggy_computed.proofs.Ancestry.{IsDoneTo}
use Rattle.daggy_computed.proofs.needed.refresh_listed.Given as goal

abbrev pub invariant-nodes : goal.invariant-nodes
invariant-nodes g l =
    let graph = g.S.EdgeSource.graph l.store in
    let number = g.Ix.IndexType.number in
    record {
      ready : IsReady graph l.entries.items l.queue.slots (map number l.queue.nodes);
      len : l.entries.len ≡ l.fn.entries.len;
      so_far : IsDoneTo g.V.PartialEq.eq (Gives (goal.F-post g) l.f) (map number l.nodes) graph l.i l.fn.entries.items
          l.entries.items (map number l.changed.items);
    }
