use Rattle.std.proofs.Common.{◌≡◌, ◌+◌, ◌<◌, ◌≤◌, ◌^◌, ◌++◌, List, true, length}
use Rattle.std.specs.Prelude.{All}
use Rattle.daggy_stable.proofs.stable_graph.full_slots.FullSlots.last_full.Given as goal

abbrev pub invariant-along : goal.invariant-along
invariant-along g l = record {
  tail : List g.row.C.Denot;
  split : l.fn.self.cells.now ≡ l.self.cells.now ++ tail;
  passed : All (λ x. g.C.Slot.vacant x ≡ true) tail;
  index : l.self.index ≡ l.fn.self.index;
  bound : length l.self.cells.now ≤ length l.fn.self.cells.now;
}

abbrev pub decreases-along : goal.decreases-along
decreases-along g l = length l.self.cells.now
