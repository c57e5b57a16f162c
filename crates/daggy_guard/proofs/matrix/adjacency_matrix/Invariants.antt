use Rattle.daggy_guard.proofs.FilledMatrix.{HasEdgesBelow}
use Rattle.daggy_guard.proofs.matrix.adjacency_matrix.Given as goal

abbrev pub invariant-edges : goal.invariant-edges
invariant-edges g l = HasEdgesBelow (g.S.EdgeSource.graph l.store) l.e l.matrix
