use Rattle.std.proofs.Common.{◌≡◌, ◌∙◌, Some, ap, subst}
use Rattle.daggy_base.specs.Graph.{node_weight}
use Rattle.daggy_dot.proofs.values.node_value.Goals as goal

pub returns-in-Some : goal.returns-in-Some
returns-in-Some g c w has =
    let graph = g.S.EdgeSource.graph c.args.graph.now in
    let shown = c.in-Some.weight in
    let whole : Some shown.now ≡ Some w = c.in-Some.ensures ∙ (ap (λ z. node_weight graph z) c.new-n.ensures.number ∙ has) in
    let weighs : shown.now ≡ w = cc in
    let post = goal.F-post g in
    (shown, weighs, subst (λ z. post c.args.f.now z shown c.f.result) c.new-n.ensures.value c.f.ensures)
