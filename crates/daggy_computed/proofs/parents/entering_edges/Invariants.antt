use Rattle.std.proofs.Common.{◌≡◌, ◌++◌, length, map}
use Rattle.daggy_base.specs.Graph.{in_list}
use Rattle.daggy_base.specs.declared.index.Direction.TheVariants.{Incoming}
use Rattle.daggy_dag.specs.Walks.{rest_of_walk}
use Rattle.daggy_computed.proofs.Entering.{shown}
use Rattle.daggy_computed.proofs.parents.entering_edges.Given as goal

abbrev pub invariant-edges : goal.invariant-edges
invariant-edges g l =
    let graph = g.S.EdgeSource.graph l.store in
    let number = g.Ix.IndexType.number in
    map (λ x. (number x.0, x.1)) l.found.items ++ shown graph (rest_of_walk Incoming graph (number l.cursor))
    ≡ shown graph (in_list graph (number l.fn.n))

abbrev pub decreases-edges : goal.decreases-edges
decreases-edges g l = length (rest_of_walk Incoming (g.S.EdgeSource.graph l.store) (g.Ix.IndexType.number l.cursor))
