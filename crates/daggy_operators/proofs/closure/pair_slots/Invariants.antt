use Rattle.daggy_visit.specs.Visit.{HasPair}
use Rattle.daggy_operators.proofs.Pairs.{ShowsPairs}
use Rattle.daggy_operators.proofs.closure.pair_slots.Given as goal

abbrev pub invariant-parents : goal.invariant-parents
invariant-parents g l = ShowsPairs g.Ix.IndexType.number (HasPair l.matrix) g.Ix.IndexType.greatest l.i 0 l.slots.items

abbrev pub invariant-children : goal.invariant-children
invariant-children g l = ShowsPairs g.Ix.IndexType.number (HasPair l.matrix) g.Ix.IndexType.greatest l.i l.k l.slots.items
