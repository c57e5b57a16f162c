use Rattle.std.proofs.Common.{◌≡◌, ℕ, List, length}
use Rattle.daggy_traversal.specs.Traversal.{neighbors_left, without_old, AreMarked}
use Rattle.daggy_traversal.proofs.neighbors.next_new.Given as goal

abbrev pub invariant-edges : goal.invariant-edges
invariant-edges g l =
    let graph = g.S.EdgeSource.graph l.graph in
    let number = g.Ix.IndexType.number in
    (nodes : List ℕ) → AreMarked l.met nodes
    → without_old nodes (neighbors_left l.dir graph (number l.e))
    ≡ without_old nodes (neighbors_left l.dir graph (number l.fn.e))

abbrev pub decreases-edges : goal.decreases-edges
decreases-edges g l = length (neighbors_left l.dir (g.S.EdgeSource.graph l.graph) (g.Ix.IndexType.number l.e))
