use Rattle.daggy_visit.specs.United.{AreUnited}
use Rattle.daggy_visit.proofs.bits.unite.Given as goal

abbrev pub invariant-words : goal.invariant-words
invariant-words l = AreUnited l.fn.words l.words l.to l.from l.k
