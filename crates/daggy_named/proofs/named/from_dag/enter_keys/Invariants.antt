use Rattle.std.proofs.Common.{◌≡◌, ◌≤◌, length, vec_len, vec_capacity}
use Rattle.std.specs.Vec.Iter.{into_iter_items, into_iter_len}
use Rattle.indexmap.specs.IndexMap.{spare}
use Rattle.daggy_named.proofs.KeyedNodes.{IsEntered}
use Rattle.daggy_named.proofs.named.from_dag.enter_keys.Given as goal

abbrev pub invariant-slots : goal.invariant-slots
invariant-slots g l =
    record {
      entered : IsEntered g.K.PartialEq.eq g.Ix.IndexType.number l.graph.graph.nodes l.fn.keys.items l.i
          l.nodes.entries l.places.items (into_iter_items l.keys);
      counted : into_iter_len l.keys ≡ length (into_iter_items l.keys);
      placed : vec_len l.places ≡ l.i;
      room : length (into_iter_items l.keys) ≤ spare l.nodes;
      place_room : length l.graph.graph.nodes ≤ vec_capacity l.places;
    }
