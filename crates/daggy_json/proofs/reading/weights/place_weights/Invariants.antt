use Rattle.std.proofs.Common.{◌≡◌, ◌-◌, length}
use Rattle.std.specs.Vec.Iter.{into_iter_items, into_iter_len}
use Rattle.daggy_json.proofs.PlacedSlots.{Placed}
use Rattle.daggy_json.proofs.reading.weights.place_weights.Given as goal

abbrev pub invariant-slots : goal.invariant-slots
invariant-slots g l =
    record {
      placed : Placed l.holes.items l.fn.weights.items l.passed l.slots.items (into_iter_items l.rest);
      counted : into_iter_len l.rest ≡ length (into_iter_items l.rest);
    }

abbrev pub decreases-slots : goal.decreases-slots
decreases-slots g l = l.total - length l.slots.items
