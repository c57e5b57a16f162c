use Rattle.std.proofs.Common.{◌≡◌, ◌∙◌, rules}
use Rattle.std.specs.Fmt.{◌++?◌}
use Rattle.daggy_base.specs.Graph.{node_weight}
use Rattle.daggy_dot.specs.Picture.{line_of_node, node_line, is_bold}
use Rattle.daggy_formats.proofs.Lines.{line_written, no_line}
use Rattle.daggy_dot.proofs.picture.Dot.write_nodes.Goals.{in-Some+in_ok-write_one, in_default}
use Rattle.daggy_dot.proofs.picture.Dot.write_nodes.Goals as goal

pub nodes-preserved : goal.nodes-preserved
nodes-preserved g c plain =
    let took = g.W.Write.write_str_gives in
    let number = g.Ix.IndexType.number in
    let text = g.L.Label.text in
    let cluster = g.K.Label.text in
    let drawing = c.args.self.now in
    let nodes = drawing.graph.nodes in
    let line = line_of_node g.Ix.IndexType.of text cluster drawing in
    let seen = c.self.view_is in
    let at : node_weight (g.S.EdgeSource.graph c.self.inside.graph.now) (number c.new-n.result) ≡ node_weight drawing.graph c.nodes.x =
    λ i. node_weight (seen i).graph (c.new-n.ensures.number i) in
    elim c.match-node_weight.branch [
      | in-Some+in_ok-write_one w ↦
          let weight = w.in-Some.weight.now in
          line_written took line nodes c.nodes.x _ _ _ w.write_one.result weight _ (w.in-Some.ensures ∙ at)
          (λ i. node_line (c.new-n.ensures.number i) (text drawing.node_labels (c.new-n.ensures.value i) weight)
          (is_bold drawing.marks (c.new-n.ensures.number i)) ++? cluster drawing.clusters (c.new-n.ensures.value i) weight)
          (c.nodes.invariant plain) (search rules) (search rules)
      | in_default w ↦ no_line took line nodes c.nodes.x _ _ (w.in_default.ensures ∙ at) (search rules)
    ]
