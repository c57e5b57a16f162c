use Rattle.std.proofs.Common.{◌≡◌, ◌+◌, ◌<◌, ◌≤◌, ◌^◌, length}
use Rattle.daggy_stable.specs.FullSlots.{next_full as next_full_of}
use Rattle.daggy_stable.proofs.stable_graph.full_slots.FullSlots.next_full.Given as goal

abbrev pub invariant-along : goal.invariant-along
invariant-along g l = record {
  few : l.self.index + length l.self.cells.now < 2 ^ 64;
  bound : l.self.index + length l.self.cells.now ≤ l.fn.self.index + length l.fn.self.cells.now;
  same : next_full_of g.C.Slot.vacant l.fn.self.index l.fn.self.cells.now
      ≡ next_full_of g.C.Slot.vacant l.self.index l.self.cells.now;
}

abbrev pub decreases-along : goal.decreases-along
decreases-along g l = length l.self.cells.now
