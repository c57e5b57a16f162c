use Rattle.std.proofs.Common.{◌≡◌, ◌∙◌, refl, rules, ℕ, List, Option}
use Rattle.daggy_base.specs.Graph.{node_weight}
use Rattle.daggy_formats.proofs.Lines.{line_written, no_line}
use Rattle.daggy_formats.proofs.document.Document.write_nodes.Goals.{in-Some+in_ok-write_node, in_default}
use Rattle.daggy_formats.proofs.document.Document.write_nodes.Goals as goal

pub nodes-preserved : goal.nodes-preserved
nodes-preserved g c plain =
    let took = g.W.Write.write_str_gives in
    let number = g.Ix.IndexType.number in
    let nodes = c.args.self.now.nodes in
    let line : ℕ → _ → Option (List ℕ) = λ n w. g.F.Format.node_line n (g.N.Display.output w) in
    let at : node_weight (g.S.EdgeSource.graph c.self.inside.graph.now) (number c.new.result)
    ≡ node_weight c.args.self.now c.nodes.x =
    λ i. node_weight (c.self.view_is i) (c.new.ensures.number i) in
    elim c.match-node_weight.branch [
      | in-Some+in_ok-write_node w ↦
          line_written took line nodes c.nodes.x _ _ _ w.write_node.result w.in-Some.weight.now _ (w.in-Some.ensures ∙ at)
          refl (c.nodes.invariant plain) (search rules) (search rules)
      | in_default w ↦ no_line took line nodes c.nodes.x _ _ (w.in_default.ensures ∙ at) (search rules)
    ]
