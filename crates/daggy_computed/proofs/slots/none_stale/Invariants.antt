use Rattle.std.proofs.Common.{ℕ, map, take, Contains}
use Rattle.daggy_computed.specs.Cells.{IsStaleAt}
use Rattle.daggy_computed.proofs.slots.none_stale.Given as goal

abbrev pub invariant-nodes : goal.invariant-nodes
invariant-nodes g l =
    (m : ℕ) → Contains (map g.Ix.IndexType.number (take l.i l.queue.nodes)) m → ¬ IsStaleAt l.entries m
