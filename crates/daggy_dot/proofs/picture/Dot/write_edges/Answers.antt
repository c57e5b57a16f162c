use Rattle.std.proofs.Common.{◌≡◌, ◌∙◌, rules}
use Rattle.daggy_base.specs.Graph.{edge_at}
use Rattle.daggy_dot.specs.Picture.{line_of_edge, edge_line, is_bold_edge}
use Rattle.daggy_formats.proofs.Edges.{no_ends, no_weight, edge_of}
use Rattle.daggy_formats.proofs.Lines.{line_written, no_line}
use Rattle.daggy_dot.proofs.picture.Dot.write_edges.Goals.{in-Some+in-Some-edge_weight+in_ok-write_arrow, in-Some+in_default-edge_weight, in_default}
use Rattle.daggy_dot.proofs.picture.Dot.write_edges.Goals as goal

pub edges-preserved : goal.edges-preserved
edges-preserved g c plain =
    let took = g.W.Write.write_str_gives in
    let number = g.Ix.IndexType.number in
    let text = g.M.Label.text in
    let drawing = c.args.self.now in
    let edges = drawing.graph.edges in
    let line = line_of_edge g.Ix.IndexType.of text drawing in
    let seen = c.self.view_is in
    let at : edge_at (g.S.EdgeSource.graph c.self.inside.graph.now) (number c.new-e.result) ≡ edge_at drawing.graph c.edges.x =
    λ i. edge_at (seen i).graph (c.new-e.ensures.number i) in
    elim c.match-edge_endpoints.branch [
      | in-Some+in-Some-edge_weight+in_ok-write_arrow w ↦
          let (a, b) = w.in-Some.ends in
          let weight = w.in-Some-edge_weight.weight.now in
          line_written took line edges c.edges.x _ _ _ w.write_arrow.result
          (record { parent = number a; child = number b; weight = weight }) _
          (edge_of _ _ _ _ w.in-Some.ensures w.in-Some-edge_weight.ensures ∙ at)
          (λ i. edge_line (number a) (number b) (text drawing.edge_labels (c.new-e.ensures.value i) weight)
          (is_bold_edge drawing.marks (number a) (number b)))
          (c.edges.invariant plain) (search rules) (search rules)
      | in-Some+in_default-edge_weight w ↦
          no_line took line edges c.edges.x _ _ (no_weight _ w.in_default-edge_weight.ensures ∙ at) (search rules)
      | in_default w ↦ no_line took line edges c.edges.x _ _ (no_ends _ w.in_default.ensures ∙ at) (search rules)
    ]
