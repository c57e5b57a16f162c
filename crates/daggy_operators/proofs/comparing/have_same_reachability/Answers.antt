use Rattle.std.proofs.Common.{◌∙◌, sym, subst}
use Rattle.std.proofs.lemmas.Bool.{false≢true}
use Rattle.daggy_redundant.specs.Comparison.{HaveSameNodes}
use Rattle.daggy_reduction.proofs.Shapes.{shapes_alike}
use Rattle.daggy_operators.proofs.Wholes.{nodes_by_reach}
use Rattle.daggy_operators.proofs.comparing.have_same_reachability.Goals as goal

pub returns-then-not-have_same_nodes : goal.returns-then-not-have_same_nodes
returns-then-not-have_same_nodes g c =
    let a = c.args.a.now.graph in (
      λ f. absurd (false≢true f),
      λ reach.
          let nodes = nodes_by_reach a c.args.b.now.graph reach in
          let there =
          subst (λ z. HaveSameNodes z (g.T.EdgeSource.graph c.graph-2.result.now)) (sym c.graph.ensures.graph)
          (subst (HaveSameNodes a) (sym c.graph-2.ensures.graph) nodes) in
          absurd (false≢true (sym c.if-not-have_same_nodes.true ∙ c.have_same_nodes.ensures.1 there)),
    )

pub returns : goal.returns
returns g c =
    let there = c.have_same_nodes.ensures.0 c.if-not-have_same_nodes.false in
    let nodes =
    subst (HaveSameNodes c.args.a.now.graph) c.graph-2.ensures.graph
    (subst (λ z. HaveSameNodes z (g.T.EdgeSource.graph c.graph-2.result.now)) c.graph.ensures.graph there) in
    let alike = shapes_alike c.in_ok-a.ensures c.in_ok-b.ensures nodes in
    let decided = c.join_same_pairs.ensures.decided in
    (λ t. alike.0 (decided.0 t), λ same. decided.1 (alike.1 same))
