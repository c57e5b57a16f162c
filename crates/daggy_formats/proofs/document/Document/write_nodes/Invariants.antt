use Rattle.std.specs.Prelude.{IfSome}
use Rattle.std.specs.Fmt.{IsPlainFormatter, HasWritten}
use Rattle.daggy_formats.specs.Lines.{lines_of}
use Rattle.daggy_formats.proofs.document.Document.write_nodes.Given as goal

abbrev pub invariant-nodes : goal.invariant-nodes
invariant-nodes g l = IsPlainFormatter l.initial.f → IfSome
    (lines_of (λ n w. g.F.Format.node_line n (g.N.Display.output w)) l.self.nodes l.x)
    (λ bs. HasWritten g.W.Write.write_str_gives l.initial.f bs l.f)
