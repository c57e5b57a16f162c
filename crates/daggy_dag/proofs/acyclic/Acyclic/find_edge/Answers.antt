use Rattle.std.proofs.Common.{OnSome, subst, ◌∙◌, ap}
use Rattle.daggy_base.specs.Graph.{HasNode}
use Rattle.daggy_base.proofs.FoundEdge.{ends_exist}
use Rattle.daggy_dag.proofs.acyclic.Acyclic.find_edge.Goals as goal

pub returns-clause-ends : goal.returns-clause-ends
returns-clause-ends g c =
    subst (λ state. OnSome c.find_edge.result
    (HasNode state.graph (g.Ix.IndexType.number c.args.a) × HasNode state.graph (g.Ix.IndexType.number c.args.b)))
    (ap (λ i. i.guarded) c.self-inside.view_is ∙ c.self.view_is)
    (ends_exist (g.S.EdgeSource.graph c.self-inside.inside.0.0.store) _ _ g.Ix.IndexType.number c.find_edge.result
    c.invariant.ensures.well_formed c.find_edge.ensures)
