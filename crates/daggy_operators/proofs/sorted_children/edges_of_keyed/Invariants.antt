use Rattle.std.proofs.Common.{◌≡◌, map, take}
use Rattle.daggy_operators.proofs.sorted_children.edges_of_keyed.Given as goal

abbrev pub invariant-edges : goal.invariant-edges
invariant-edges g l =
    map g.Ix.IndexType.number l.edges.items ≡ map (λ p. g.Ix.IndexType.number p.1.1) (take l.i l.keyed)
