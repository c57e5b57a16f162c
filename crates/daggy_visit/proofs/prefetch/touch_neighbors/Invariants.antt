use Rattle.daggy_visit.proofs.prefetch.touch_neighbors.Given as goal

abbrev pub invariant-edges : goal.invariant-edges
invariant-edges g l = Unit {0}
