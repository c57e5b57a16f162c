use Rattle.daggy_json.proofs.WrongHoles.{HolesSoFar}
use Rattle.daggy_json.proofs.reading.layout.find_wrong_hole.Given as goal

abbrev pub invariant-loop-i : goal.invariant-loop-i
invariant-loop-i l = HolesSoFar l.kind l.slots l.holes.items l.i l.low
