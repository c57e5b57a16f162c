use Rattle.std.proofs.Common.{◌≡◌, OnSome, subst}
use Rattle.daggy_base.specs.State.{State}
use Rattle.daggy_base.specs.Removal.{KeepsIndices, without_node}
use Rattle.daggy_base.specs.declared.kind.Kind.{Kind}
use Rattle.daggy_base.proofs.IndicesKept.{keeps_node_gone}
use Rattle.daggy_dag.proofs.acyclic.Acyclic.remove_node.Goals as goal

pub returns-clause-keeps : goal.returns-clause-keeps
returns-clause-keeps g c = λ stable.
    let P : State g.row.N.Denot g.row.E.Denot → Type 0 = λ s. KeepsIndices s.graph c.remove_node.new.self.graph in
    let Q : Kind → Type 0 = λ k.
    OnSome c.remove_node.result (c.remove_node.new.self.graph
    ≡ without_node k c.self.inside.guarded.graph (g.Ix.IndexType.number c.args.n)) in
    subst P c.self.view_is (keeps_node_gone _ _ _ c.remove_node.result (subst Q stable c.remove_node.ensures.removed)
    c.remove_node.ensures.missing)
