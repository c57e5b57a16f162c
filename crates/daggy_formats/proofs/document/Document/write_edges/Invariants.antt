use Rattle.std.specs.Prelude.{IfSome}
use Rattle.std.specs.Fmt.{IsPlainFormatter, HasWritten}
use Rattle.daggy_formats.specs.Lines.{lines_of}
use Rattle.daggy_formats.proofs.document.Document.write_edges.Given as goal

abbrev pub invariant-edges : goal.invariant-edges
invariant-edges g l = IsPlainFormatter l.initial.f → IfSome
    (lines_of (λ e x. g.F.Format.edge_line x.parent x.child (g.E.Display.output x.weight)) l.self.edges l.x)
    (λ bs. HasWritten g.W.Write.write_str_gives l.initial.f bs l.f)
