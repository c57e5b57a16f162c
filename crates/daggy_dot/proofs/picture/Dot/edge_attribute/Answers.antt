use Rattle.std.proofs.Common.{sym, subst}
use Rattle.daggy_dot.specs.Values.{AreEdgeValues}
use Rattle.daggy_dot.proofs.picture.Dot.edge_attribute.Goals as goal

pub returns-clause-values : goal.returns-clause-values
returns-clause-values g c =
    let are = AreEdgeValues g.Ix.IndexType.of (goal.F-post g) c.args.value in
    subst (λ items. are c.args.self.graph items) (sym c.new.ensures.values)
    (subst (λ d. are d.graph c.in_ok-values.values.items) c.self.view_is c.in_ok-values.ensures)
