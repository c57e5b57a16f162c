use Rattle.std.proofs.Common.{subst}
use Rattle.daggy_base.specs.WellFormed.{IsWellFormed}
use Rattle.daggy_guard.proofs.GuardedChange.{same_graph}
use Rattle.daggy_base.proofs.JoinedByEdge.{joined_if_found}
use Rattle.daggy_dag.proofs.acyclic.Acyclic.contains_edge.Goals as goal

pub returns : goal.returns
returns g c =
    let end = g.Ix.IndexType.greatest in
    let w = subst (λ z. IsWellFormed end z) (same_graph c.self.view_is) c.invariant.ensures.dag.well_formed in
    rw c.is_some.ensures (joined_if_found c.args.self.now.graph (g.Ix.IndexType.number c.args.a)
    (g.Ix.IndexType.number c.args.b) g.Ix.IndexType.number c.find_edge.result w c.find_edge.ensures.found)
