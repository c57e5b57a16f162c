use Rattle.std.proofs.Common.{◌≡◌, OnSome, subst}
use Rattle.daggy_base.specs.State.{State}
use Rattle.daggy_base.specs.Removal.{KeepsIndices, without_edge}
use Rattle.daggy_base.specs.declared.kind.Kind.{Kind}
use Rattle.daggy_base.proofs.IndicesKept.{keeps_edge_gone}
use Rattle.daggy_dag.proofs.acyclic.Acyclic.remove_edge.Goals as goal

pub returns-clause-keeps : goal.returns-clause-keeps
returns-clause-keeps g c = λ stable.
    let P : State g.row.N.Denot g.row.E.Denot → Type 0 = λ s. KeepsIndices s.graph c.remove_edge.new.self.graph in
    let Q : Kind → Type 0 = λ k.
    OnSome c.remove_edge.result (c.remove_edge.new.self.graph
    ≡ without_edge k c.self.inside.guarded.graph (g.Ix.IndexType.number c.args.e)) in
    subst P c.self.view_is (keeps_edge_gone _ _ _ c.remove_edge.result (subst Q stable c.remove_edge.ensures.removed)
    c.remove_edge.ensures.missing)
