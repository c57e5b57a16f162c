use Rattle.daggy_dag.proofs.EdgesSorted.{sorted_exact, sorted_ascends}
use Rattle.daggy_dag.proofs.acyclic.parents.ascending_entering_edges.Goals as goal

pub returns-clause-ascending : goal.returns-clause-ascending
returns-clause-ascending g c =
    sorted_ascends g.Ix.IndexType.number _ _ _ c.in_ok-edges.ensures c.sort_by_index.ensures.same
    c.sort_by_index.ensures.sorted (c.invariant.ensures.well_formed.in_of.once (g.Ix.IndexType.number c.args.n))

pub returns-clause-exact : goal.returns-clause-exact
returns-clause-exact g c =
    sorted_exact g.Ix.IndexType.number _ _ _ c.in_ok-edges.ensures c.sort_by_index.ensures.same
