use Rattle.std.proofs.Common.{sym, subst, get_or}
use Rattle.daggy_base.specs.Graph.{HasNode}
use Rattle.daggy_computed.proofs.CellGraphs.{same_nodes}
use Rattle.daggy_computed.proofs.computed.Computed.contains_parents.Goals as goal

pub returns : goal.returns
returns g c =
    let number = g.Ix.IndexType.number in
    let items = c.args.items.now in
    let graph = c.self.inside.dag.graph in
    let es = c.self.inside.entries.items in (
      λ t k d low. (let p = number (get_or items k d).0 in
          subst (λ z. HasNode z.graph p) c.self.view_is ((same_nodes graph es p).0 (c.contains_parents.ensures.0 t k d low))),
      λ h. c.contains_parents.ensures.1
          (λ k d low. (let p = number (get_or items k d).0 in
          (same_nodes graph es p).1 (subst (λ z. HasNode z.graph p) (sym c.self.view_is) (h k d low)))),
    )
