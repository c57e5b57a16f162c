use Rattle.std.proofs.Common.{◌≡◌, map, take}
use Rattle.daggy_operators.proofs.simple_paths.path_along.Given as goal

abbrev pub invariant-nodes : goal.invariant-nodes
invariant-nodes g l = map g.Ix.IndexType.number l.path.items ≡ map (λ at. g.Ix.IndexType.number at.0) (take l.i l.way.items)
