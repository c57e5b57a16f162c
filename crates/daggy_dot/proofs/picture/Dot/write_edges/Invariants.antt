use Rattle.std.specs.Prelude.{IfSome}
use Rattle.std.specs.Fmt.{IsPlainFormatter, HasWritten}
use Rattle.daggy_formats.specs.Lines.{lines_of}
use Rattle.daggy_dot.specs.Picture.{line_of_edge}
use Rattle.daggy_dot.proofs.picture.Dot.write_edges.Given as goal

abbrev pub invariant-edges : goal.invariant-edges
invariant-edges g l = IsPlainFormatter l.initial.f → IfSome
    (lines_of (line_of_edge g.Ix.IndexType.of g.M.Label.text l.self) l.self.graph.edges l.x)
    (λ bs. HasWritten g.W.Write.write_str_gives l.initial.f bs l.f)
