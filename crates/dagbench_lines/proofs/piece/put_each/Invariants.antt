use Rattle.std.proofs.Common.{take, Ok}
use Rattle.dagbench_lines.specs.Replies.{spaced}
use Rattle.dagbench_lines.specs.Writing.{Writes}
use Rattle.dagbench_lines.proofs.piece.put_each.Given as goal

abbrev pub invariant-loop-piece : goal.invariant-loop-piece
invariant-loop-piece g l =
    Writes {A = Unit {0}} {E = Unit {0}} g.K.Sink.taken g.K.Sink.failures (Ok tt) l.fn.writer l.writer
    (spaced g.T.WriteText.text (take l.piece-index l.pieces))
