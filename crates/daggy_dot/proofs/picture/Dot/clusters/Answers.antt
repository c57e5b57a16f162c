use Rattle.std.proofs.Common.{sym, subst}
use Rattle.daggy_dot.specs.Values.{AreNodeValues}
use Rattle.daggy_dot.proofs.picture.Dot.clusters.Goals as goal

pub returns-clause-names : goal.returns-clause-names
returns-clause-names g c =
    let are = AreNodeValues g.Ix.IndexType.of (goal.F-post g) c.args.name in
    subst (λ items. are c.args.self.graph items) (sym c.new.ensures)
    (subst (λ d. are d.graph c.in_ok-names.names.items) c.self.view_is c.in_ok-names.ensures)
