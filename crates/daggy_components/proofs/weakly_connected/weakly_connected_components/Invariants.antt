use Rattle.std.proofs.Common.{◌≡◌, ◌+◌, ◌-◌, map}
use Rattle.daggy_search.specs.Reversed.{reversed}
use Rattle.daggy_components.proofs.Connecting.{Resting, Queueing}
use Rattle.daggy_components.proofs.weakly_connected.weakly_connected_components.Given as goal

abbrev pub invariant-roots : goal.invariant-roots
invariant-roots g l =
    record {
      along : l.along.graph ≡ g.S.EdgeSource.graph l.fn.store;
      against : l.against.graph ≡ reversed (g.S.EdgeSource.graph l.fn.store);
      resting : Resting g.Ix.IndexType.greatest l.bound (g.S.EdgeSource.graph l.fn.store) l.i l.places.items
          (map g.Ix.IndexType.number l.nodes.items) l.ends.items;
    }

abbrev pub invariant-queue : goal.invariant-queue
invariant-queue g l =
    record {
      along : l.along.graph ≡ g.S.EdgeSource.graph l.fn.store;
      against : l.against.graph ≡ reversed (g.S.EdgeSource.graph l.fn.store);
      queueing : Queueing g.Ix.IndexType.greatest l.bound (g.S.EdgeSource.graph l.fn.store) (l.i + 1) l.place
          l.places.items (map g.Ix.IndexType.number l.nodes.items) l.ends.items l.head;
    }

abbrev pub decreases-queue : goal.decreases-queue
decreases-queue g l = l.bound - l.head
