use Rattle.std.proofs.Common.{◌↔◌, subst}
use Rattle.std.specs.Bool.{IsTrue}
use Rattle.std.specs.List.{All}
use Rattle.daggy_base.specs.Graph.{HasNode}
use Rattle.daggy_dag.proofs.acyclic.Acyclic.exist.Goals as goal

pub returns : goal.returns
returns g c =
    let all = subst (λ z. IsTrue c.contains_parents.result
    ↔ All (λ x. HasNode c.args.self.now.graph (g.Ix.IndexType.number x.0)) z) c.as_slice.ensures.value
    c.contains_parents.ensures in
    (λ t. (c.contains_node.ensures.0 c.if-not-contains_node.false, all.0 t), λ h. all.1 h.1)
