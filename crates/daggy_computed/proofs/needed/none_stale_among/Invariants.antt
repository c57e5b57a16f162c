use Rattle.std.proofs.Common.{ℕ, map, take, Contains}
use Rattle.daggy_computed.specs.Cells.{IsStaleAt}
use Rattle.daggy_computed.proofs.needed.none_stale_among.Given as goal

abbrev pub invariant-nodes : goal.invariant-nodes
invariant-nodes g l = (m : ℕ) → Contains (map g.Ix.IndexType.number (take l.i l.nodes)) m → ¬ IsStaleAt l.entries m
