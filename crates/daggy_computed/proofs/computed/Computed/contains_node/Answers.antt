use Rattle.std.proofs.Common.{sym, subst}
use Rattle.daggy_base.specs.Graph.{HasNode}
use Rattle.daggy_computed.proofs.CellGraphs.{same_nodes}
use Rattle.daggy_computed.proofs.computed.Computed.contains_node.Goals as goal

pub returns : goal.returns
returns g c =
    let n = g.Ix.IndexType.number c.args.n in
    let same = same_nodes c.self.inside.dag.graph c.self.inside.entries.items n in (
      λ t. subst (λ z. HasNode z.graph n) c.self.view_is (same.0 (c.contains_node.ensures.0 t)),
      λ h. c.contains_node.ensures.1 (same.1 (subst (λ z. HasNode z.graph n) (sym c.self.view_is) h)),
    )
