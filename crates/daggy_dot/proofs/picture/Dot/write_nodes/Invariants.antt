use Rattle.std.specs.Prelude.{IfSome}
use Rattle.std.specs.Fmt.{IsPlainFormatter, HasWritten}
use Rattle.daggy_formats.specs.Lines.{lines_of}
use Rattle.daggy_dot.specs.Picture.{line_of_node}
use Rattle.daggy_dot.proofs.picture.Dot.write_nodes.Given as goal

abbrev pub invariant-nodes : goal.invariant-nodes
invariant-nodes g l = IsPlainFormatter l.initial.f → IfSome
    (lines_of (line_of_node g.Ix.IndexType.of g.L.Label.text g.K.Label.text l.self) l.self.graph.nodes l.x)
    (λ bs. HasWritten g.W.Write.write_str_gives l.initial.f bs l.f)
